-- A temporary that some reference writes stays such a one.
use Rattle.std.proofs.Common.{◌∙◌, ℕ, ap, List, Option, Some, None}
use Rattle.es_resolution.specs.Declarations.{Bound}
use Rattle.es_scope.specs.declared.context_names.BoundIdentifier.{BoundIdentifier}
use Rattle.es_tree.specs.Words.{Text}
use Rattle.lower_temporaries.proofs.Takings.{takes-none}
use Rattle.lower_temporaries.specs.Takings.{ReadsMore, Takes, moment_of}
use Rattle.lower_temporaries.specs.Temporaries.{TakesTemporary}
use Rattle.lower_temporaries.specs.declared.temporaries.Temporary.{Temporary}
use Rattle.lower_chains.specs.WayParts.{IsOwn}
use Rattle.lower_chains.specs.Ways.{Ctx, IsHeld}

pub held-moved : {bs : List Bound} {ids : ℕ} (old new : Ctx) (h : Option BoundIdentifier) → Takes bs ids (moment_of old) (moment_of new) → IsHeld old h → IsHeld new h
held-moved old new None t k = tt
held-moved old new (Some x) t k = ap (λ w. w.steady x.symbol_id.0) t.whole_is ∙ k

pub held-read : {ids : ℕ} (old new : Ctx) (h : Option BoundIdentifier) → ReadsMore ids old new → IsHeld old h → IsHeld new h
held-read old new h r k = held-moved old new h (takes-none r) k

pub own-read : {ids : ℕ} (old new : Ctx) (t : Temporary) → ReadsMore ids old new → IsOwn old t → IsOwn new t
own-read old new t r k = record { target = k.target; unsteady = ap (λ w. w.steady t.symbol_id.0) (takes-none r).whole_is ∙ k.unsteady }

pub own-moved : {bs : List Bound} {ids : ℕ} (old new : Ctx) (t : Temporary) → Takes bs ids (moment_of old) (moment_of new) → IsOwn old t → IsOwn new t
own-moved old new t r k = record { target = k.target; unsteady = ap (λ w. w.steady t.symbol_id.0) r.whole_is ∙ k.unsteady }

pub own-made : (base : Text) (old new : Ctx) (t : Temporary) → TakesTemporary base old new t → IsOwn new t
own-made base old new t k = record { target = k.target; unsteady = k.unsteady }
