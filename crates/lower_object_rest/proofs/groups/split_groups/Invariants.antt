use Rattle.std.specs.Vec.Iter.{into_iter_items}
use Rattle.lower_object_rest.proofs.GroupsMade.{GroupsSoFar}
use Rattle.lower_object_rest.proofs.groups.split_groups.Given as goal

abbrev pub invariant-loop-property : goal.invariant-loop-property
invariant-loop-property l = GroupsSoFar l.initial.ctx l.ctx l.fn.properties.items (into_iter_items l.property-iterator) l.source l.groups
