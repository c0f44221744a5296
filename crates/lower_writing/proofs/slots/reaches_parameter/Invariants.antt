use Rattle.std.proofs.Common.{◌≡◌, drop}
use Rattle.es_scope.specs.Contexts.{around_of}
use Rattle.lower_writing.specs.Slots.{in_parameter, reaches_parameter}
use Rattle.lower_writing.proofs.slots.reaches_parameter.Given as goal

-- the ancestors so far lead to parts of patterns
abbrev pub invariant-loop-place : goal.invariant-loop-place
invariant-loop-place g l = in_parameter (drop l.place (around_of l.fn.ctx)) ≡ reaches_parameter (around_of l.fn.ctx)
