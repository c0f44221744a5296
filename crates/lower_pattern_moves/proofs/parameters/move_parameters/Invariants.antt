use Rattle.std.specs.Vec.Iter.{into_iter_items}
use Rattle.lower_pattern_moves.proofs.MovedParameters.{ParametersSoFar}
use Rattle.lower_pattern_moves.proofs.parameters.move_parameters.Given as goal

abbrev pub invariant-loop-parameter : goal.invariant-loop-parameter
invariant-loop-parameter l = ParametersSoFar l.initial.uids l.uids l.fn.parameters.items l.named.items l.declared.items (into_iter_items l.parameter-iterator)
