use Rattle.std.specs.Vec.Iter.{into_iter_items}
use Rattle.lower_temporaries.specs.Declarators.{bound_as}
use Rattle.lower_rest_assignments.specs.Groups.{SplitsGroups}
use Rattle.lower_rest_assignments.proofs.groups.split_groups.Given as goal

abbrev pub invariant-loop-property : goal.invariant-loop-property
invariant-loop-property l = SplitsGroups (bound_as l.source) l.initial.ctx l.ctx l.fn.assignments.items l.fn.properties.items (into_iter_items l.property-iterator) l.groups
