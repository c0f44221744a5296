use Rattle.std.proofs.Common.{◌≡◌, false, take}
use Rattle.es_tree.specs.StaticRules.{has_pattern}
use Rattle.es_tree.specs.Tree.{trees}
use Rattle.es_static_rules.proofs.declarations.has_pattern.Given as goal

abbrev pub invariant-loop-declarator : goal.invariant-loop-declarator
invariant-loop-declarator l = has_pattern (trees (take l.declarator-index l.declarators)) ≡ false
