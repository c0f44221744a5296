use Rattle.std.specs.Vec.Iter.{into_iter_items}
use Rattle.lower_object_spread.proofs.Copying.{CopiedSoFar}
use Rattle.lower_object_spread.proofs.copies.copy_properties.Given as goal

abbrev pub invariant-loop-property : goal.invariant-loop-property
invariant-loop-property l = CopiedSoFar l.initial.ctx l.ctx l.fn.properties.items l.copied.copy l.copied.pending.items (into_iter_items l.property-iterator)
