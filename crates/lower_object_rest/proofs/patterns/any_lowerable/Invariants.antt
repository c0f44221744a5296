use Rattle.std.proofs.Common.{false, take, ◌≡◌}
use Rattle.es_tree.specs.Tree.{trees}
use Rattle.es_rest_shapes.specs.RestShapes.{any_tree}
use Rattle.lower_object_rest.specs.Shapes.{is_lowerable}
use Rattle.lower_object_rest.proofs.patterns.any_lowerable.Given as goal

abbrev pub invariant-loop-declarator : goal.invariant-loop-declarator
invariant-loop-declarator l = any_tree is_lowerable (trees (take l.declarator-index l.declarators)) ≡ false
