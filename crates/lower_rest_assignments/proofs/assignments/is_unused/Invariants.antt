use Rattle.std.proofs.Common.{◌≡◌, drop}
use Rattle.es_scope.specs.Contexts.{around_of}
use Rattle.lower_rest_assignments.specs.Unused.{is_unused}
use Rattle.lower_rest_assignments.proofs.assignments.is_unused.Given as goal

-- the ancestors so far are parentheses
abbrev pub invariant-loop-place : goal.invariant-loop-place
invariant-loop-place l = is_unused (drop l.place (around_of l.fn.ctx)) ≡ is_unused (around_of l.fn.ctx)
