-- Where nothing is asked of nodes, the conditions go inward.
use Rattle.std.proofs.Common.{refl, ℕ, zero, suc, Bool, true, false}
use Rattle.es_tree.specs.Tree.{Tree, Fields, done, ◌then◌, Field, missing, one, many, statements, Trees, empty, ◌before◌}
use Rattle.es_steps.specs.Open.{is_statement_body}
use Rattle.es_steps.specs.Steps.{Site}
use Rattle.es_changes.specs.Changes.{AsBody, Each, EachBy, EachIn}
use Rattle.es_changes.specs.Conditions.{AreSound, holds_before}
use Rattle.es_traverse.specs.NothingAsked.{nothing_asked}

abbrev Held : Site → Tree → Type 0
Held = holds_before nothing_asked

each : (n : Site) (ts : Trees) → Each Held n ts
each n empty = tt
each n (t before ts) = (refl, each n ts)

as-body : (n : Site) (b : Bool) (t : Tree) → AsBody Held n b t
as-body n true t = refl
as-body n false t = refl

each-by : (n : Site) (b : Bool) (f : Field) → EachBy Held n b f
each-by n b missing = tt
each-by n true (one t) = as-body n (is_statement_body t) t
each-by n false (one t) = refl
each-by n b (many ts) = each n ts
each-by n b (statements ts) = each n ts

each-in : (sites : ℕ → Site) (bodies : ℕ → Bool) (fs : Fields) → EachIn Held sites bodies fs
each-in sites bodies done = tt
each-in sites bodies (f then fs) = (each-by (sites zero) (bodies zero) f, each-in (λ i. sites (suc i)) (λ i. bodies (suc i)) fs)

pub nothing-asked-sound : AreSound nothing_asked
nothing-asked-sound = record { stronger = λ n t h. h; alike = λ n s k l fs form brings slot h. h; inward = λ n s k l fs form h. each-in _ _ fs }
