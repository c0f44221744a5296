use Rattle.std.specs.Vec.Iter.{into_iter_items}
use Rattle.es_using_rows.specs.UsingPlaces.{are_used}
use Rattle.es_using_rows.specs.Used.{constants}
use Rattle.lower_using.proofs.Becomes.{SoFar}
use Rattle.lower_using.proofs.constants.make_constants.Given as goal

abbrev pub invariant-loop-statement : goal.invariant-loop-statement
invariant-loop-statement l = SoFar constants are_used l.fn.context l.fn.statements.items l.made.items (into_iter_items l.statement-iterator)
