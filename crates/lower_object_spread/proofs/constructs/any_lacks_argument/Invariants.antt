use Rattle.std.proofs.Common.{◌≡◌, false, take}
use Rattle.es_tree.specs.Tree.{trees}
use Rattle.lower_object_spread.specs.Literals.{any_lacks_argument}
use Rattle.lower_object_spread.proofs.constructs.any_lacks_argument.Given as goal

abbrev pub invariant-loop-property : goal.invariant-loop-property
invariant-loop-property l = any_lacks_argument (trees (take l.property-index l.properties)) ≡ false
