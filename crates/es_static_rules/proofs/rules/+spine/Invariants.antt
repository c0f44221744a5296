use Rattle.std.proofs.Common.{◌+◌, ◌*◌, option_copied}
use Rattle.es_tree.specs.Tree.{tree_size}
use Rattle.es_static_rules.proofs.Spines.{optional_size}
use Rattle.es_static_rules.proofs.rules.+spine.Given as goal

-- each call goes to a smaller node, or to the same one at a lower rank
abbrev pub decreases-has_optional : goal.decreases-has_optional
decreases-has_optional l = 2 * tree_size l.node.now

abbrev pub decreases-has_optional_within : goal.decreases-has_optional_within
decreases-has_optional_within l = 2 * optional_size (option_copied l.node) + 1
