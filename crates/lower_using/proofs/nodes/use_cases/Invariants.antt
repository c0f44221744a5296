use Rattle.std.specs.Vec.Iter.{into_iter_items}
use Rattle.es_using_rows.specs.UsingPlaces.{are_used_cases}
use Rattle.es_using_rows.specs.Used.{used_cases}
use Rattle.lower_using.proofs.Becomes.{SoFar}
use Rattle.lower_using.proofs.nodes.use_cases.Given as goal

abbrev pub invariant-loop-case : goal.invariant-loop-case
invariant-loop-case l = SoFar used_cases are_used_cases l.fn.context l.fn.cases.items l.used.items (into_iter_items l.case-iterator)
