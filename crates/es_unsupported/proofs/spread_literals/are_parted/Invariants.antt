use Rattle.std.proofs.Common.{◌≡◌, drop}
use Rattle.es_tree.specs.Tree.{trees}
use Rattle.es_unsupported.specs.SpreadLiterals.{are_parted, no_accessor}
use Rattle.es_unsupported.proofs.spread_literals.are_parted.Given as goal

-- it is told by the properties still to come
abbrev pub invariant-loop-property : goal.invariant-loop-property
invariant-loop-property l = are_parted no_accessor no_accessor (trees l.properties) ≡ are_parted l.earlier l.so_far (trees (drop l.property-index l.properties))
