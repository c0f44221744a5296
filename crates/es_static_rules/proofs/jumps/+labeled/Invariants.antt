use Rattle.std.proofs.Common.{◌+◌, ◌*◌}
use Rattle.es_tree.specs.Tree.{tree_size}
use Rattle.es_static_rules.proofs.jumps.+labeled.Given as goal

-- each call goes to a smaller node, or to the same one at a lower rank
abbrev pub decreases-has_loop_body : goal.decreases-has_loop_body
decreases-has_loop_body l = 2 * tree_size l.node.now

abbrev pub decreases-is_labeled_loop : goal.decreases-is_labeled_loop
decreases-is_labeled_loop l = 2 * tree_size l.node.now + 1
