-- The moment of a context in whose state nothing is pending.
use Rattle.std.specs.Prelude.{[], ◌∷◌}
use Rattle.es_scope.specs.declared.context.TraverseCtx.{TraverseCtx}
use Rattle.es_steps.specs.Open.{nothing_pending}
use Rattle.es_changes.specs.Moments.{Moment}
use Rattle.es_traverse.specs.ContextMoments.{moment}
use Rattle.visit_example.specs.declared.removal.NothingPending.{NothingPending}

abbrev pub moment_of : TraverseCtx NothingPending → Moment
moment_of ctx = moment (λ s. nothing_pending ∷ []) ctx
