use Rattle.std.proofs.Common.{◌≡◌, false, take}
use Rattle.es_tree.specs.Tree.{trees}
use Rattle.es_unsupported.specs.SpreadLiterals.{any_among, uses_super}
use Rattle.es_unsupported.proofs.spread_literals.any_uses_super.Given as goal

-- none of the properties so far does
abbrev pub invariant-loop-property : goal.invariant-loop-property
invariant-loop-property l = any_among uses_super (trees (take l.property-index l.properties)) ≡ false
