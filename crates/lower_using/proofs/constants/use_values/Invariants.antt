use Rattle.std.specs.Vec.Iter.{into_iter_items}
use Rattle.std.specs.Prelude.{true}
use Rattle.es_using_rows.specs.Used.{used_declarators}
use Rattle.lower_using.proofs.Becomes.{SoFar}
use Rattle.lower_using.proofs.constants.use_values.Given as goal

abbrev pub invariant-loop-declarator : goal.invariant-loop-declarator
invariant-loop-declarator l = SoFar used_declarators (λ ds. true) l.fn.context l.fn.declarators.items l.used.items (into_iter_items l.declarator-iterator)
