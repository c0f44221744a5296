-- Exports of namespaces: an import asks what the export asks, and sets a hidden cell.
use Rattle.std.proofs.Common.{◌≡◌, refl, List, [], ap, ◌∙◌}
use Rattle.std.specs.Prelude.{Bool, true, false, Option, Some, None, codes, bytes_eq, if◌then◌else◌}
use Rattle.es_tree.specs.Words.{Text}
use Rattle.es_tree.specs.Scopes.{Declared}
use Rattle.es_tree.specs.Tree.{Tree, Label, Trees}
use Rattle.es_runs.specs.Machine.{Value, M, Result, onward, ◌>>=◌, return, ask, set_cell}
use Rattle.es_runs.specs.Machine.Value.{undefined}
use Rattle.es_runs.specs.Machine.Question.{of_statement}
use Rattle.es_runs.specs.Machine.StatementQuestion.{import_name}
use Rattle.es_runs.specs.Machine.Result.{gives, stops}
use Rattle.es_runs.specs.Core.{World, Binding, in_order, value}
use Rattle.es_runs.specs.Core.Binding.{changeable, constant, free}
use Rattle.es_runs.specs.Alike.{Frame, Alike, Equal, SameWorld, Level, bad_names}
use Rattle.es_runs.specs.Runs.{binding_of, is_declared, none_hidden, program, scope_of}
use Rattle.es_runs.proofs.Basic.{ask_alike, return_alike, then_alike}
use Rattle.es_statement_runs.specs.Alike.{Quiet, StackSeen, SenseLike}
use Rattle.es_statement_runs.specs.Alike.SensesLike.{no_sense, sense_and}
use Rattle.es_statement_runs.specs.Helpers.{Supply}
use Rattle.es_statement_runs.specs.Kinds.{found, kind_in, sense, senses}
use Rattle.es_statement_runs.specs.Laws.{LawNamespaceExports, SplitExports, among_names, any_cells, is_silent, no_row}
use Rattle.es_statement_runs.specs.Laws.SplitExports.{as_it_is, none_split, one_split}
use Rattle.es_statement_runs.specs.Names.{top_in, using_in}
use Rattle.es_statement_runs.specs.Places.{SupplySeen, Take, avoids, label_taken, placed_at, value_taken}
use Rattle.es_statement_runs.specs.Runs.{program_world}
use Rattle.es_statement_runs.specs.Scopes.{done_with, stack_cell}
use Rattle.es_statement_runs.specs.Senses.{cores, static_text}
use Rattle.es_statement_runs.specs.StatementParts.{asked_by, begun}
use Rattle.es_statement_runs.proofs.BareVars.{Unsaid, beside_like, said_alike_from, self_beside, start_same, top_bound, top_worlds, unsaid_inside, unsaid_programs}
use Rattle.es_statement_runs.proofs.BareVars.Places.{both_at}
use Rattle.es_statement_runs.proofs.Catches.{hide_set}
use Rattle.es_statement_runs.proofs.TopVars.{temporaries_apart}
use Rattle.es_statement_runs.proofs.Combinators.{stack_alike}
use Rattle.es_statement_runs.proofs.Programs.{unsilent_scope}
use Rattle.es_statement_runs.proofs.RunLaws.{same_run}
use Rattle.es_statement_runs.proofs.SensesAlike.{begun_like, ends_like, label_text}

-- a name that stands for no helper is asked for and set
abbrev Asks : Binding → Text → Type 0
Asks b x = (m n : Text) → asked_by b m n x ≡ (ask (of_statement (import_name m n)) >>= λ z. set_cell x z)

asks_kind : (kind x : Text) → Asks (binding_of kind) x
asks_kind kind x = at (bytes_eq kind (codes "const"))
  where
    at : (b : Bool) → Asks (if b then constant else changeable) x
    at true m n = refl
    at false m n = refl

asks_found : (c : Option Text) (x : Text) → Asks (found c x (λ z. free) x) x
asks_found None x m n = refl
asks_found (Some kind) x m n = asks_kind kind x m n

asks_declared : (ds : List Declared) (x : Text) → Asks (scope_of ds x) x
asks_declared ds x m n = rw (top_bound ds x) (asks_found (kind_in ds x) x m n)

then_ends : (x : Text) (r : Result Value) → onward (onward r (λ z. set_cell x z)) (λ z. return undefined) ≡ onward r (λ z. set_cell x z >>= λ y. return undefined)
then_ends x (gives a s) = refl
then_ends x (stops a s) = refl

module _ (u : Supply) (xs : List Text) (quiet : Quiet (any_cells (among_names xs))) (stack : StackSeen (any_cells (among_names xs))) (seen : SupplySeen (any_cells (among_names xs)) u)
    (w v : World) (same : SameWorld (among_names xs) w v) (unsaid : Unsaid (among_names xs) w v) (asks : (x : Text) → among_names xs x ≡ true → Asks (v.scope x) x) where
  abbrev F : Frame
  F = any_cells (among_names xs)

  abbrev bad : Level → Text → Bool
  bad = bad_names (among_names xs) none_hidden

  part : (t : Take) (a : Tree) → avoids bad t a ≡ true → SenseLike F w v t (sense (placed_at u w [] []) a) (sense (placed_at u v [] []) a)
  part t a h = beside_like F quiet stack bad (λ n x h. h) u seen (λ es w v. Unsaid (among_names xs) w v) (λ es w v same h. said_alike_from F u w v same h) (λ ds es vis w v h. unsaid_inside (among_names xs) es w v h) (λ es. no_row) (λ es t a b i. absurd i) (self_beside bad (λ es. no_row) a [] t h) (both_at same unsaid)

  import_asked : (x : Text) → among_names xs x ≡ true → (m : Text) → Alike F Equal (ask (of_statement (import_name m (codes "*"))) >>= done_with) (asked_by (v.scope x) m (codes "*") x >>= λ z. return undefined)
  import_asked x e m = λ s t i. rw (asks x e m (codes "*"), then_ends x (ask (of_statement (import_name m (codes "*"))) t)) (then_alike F (ask_alike F (of_statement (import_name m (codes "*")))) (λ z. hide_set (among_names xs) x z e (return_alike F undefined)) s t i)

  split_list : {ts us : Trees} → SplitExports bad xs ts us → Alike F Equal (in_order w (cores (senses (placed_at u w [] []) ts))) (in_order v (cores (senses (placed_at u v [] []) us)))
  split_list none_split = return_alike F undefined
  split_list (as_it_is {a = a} h g) = then_alike F (part _ a h).core.evaluation (λ z. split_list g)
  split_list (one_split e h g) = λ s t i. split_list g s t i

  split_begun : {ts us : Trees} → SplitExports bad xs ts us → {m k : M Value} → Alike F Equal m k → Alike F Equal (begun (senses (placed_at u w [] []) ts) m) (begun (senses (placed_at u v [] []) us) k)
  split_begun none_split i = i
  split_begun (as_it_is {a = a} h g) i = begun_like F quiet w v same (sense_and (part _ a h) no_sense) (split_begun g i)
  split_begun (one_split {x = x} {s = s} e h g) i = rw (label_text F quiet w v same (part label_taken s h)) (then_alike F (import_asked x e (static_text (sense (placed_at u w [] []) s))) (λ z. split_begun g i))

  split_program : (l : Label) (ds : Trees) {body after : Trees} → SplitExports bad xs body after → using_in after ≡ using_in body →
      Alike F Equal (value w (sense (placed_at u w [] []) (program l ds body)).core) (value v (sense (placed_at u v [] []) (program l ds after)).core)
  split_program l ds {body = body} h uses = rw uses ((ends_like F quiet w v same value_taken (split_begun h (stack_alike F quiet (using_in body) (λ _. stack) (split_list h)))).core.evaluation)

using_split : {bad : Level → Text → Bool} {xs : List Text} {ts us : Trees} → SplitExports bad xs ts us → using_in us ≡ using_in ts
using_split none_split = refl
using_split (as_it_is h g) = rw (using_split g) refl
using_split (one_split e h g) = using_split g

pub law_namespace_exports_proof : LawNamespaceExports
law_namespace_exports_proof u xs l ds body after rows tops apart silents unsilent math program_names seen n this moves assumed t ms in_sight =
    let hidden : Text → Bool = among_names xs in
    let quiet : Quiet (any_cells hidden) = record { own_seen = λ y e i. record { hidden = temporaries_apart xs program_names y e; frozen = refl; loose = refl }; math = math } in
    let stack : StackSeen (any_cells hidden) = record { hidden = temporaries_apart xs program_names stack_cell refl; frozen = refl; loose = refl } in
    same_run (any_cells hidden) (is_declared (top_in body)) apart in_sight
    (split_program u xs quiet stack seen (program_world u this (program l ds body)) (program_world u this (program l ds after)) (top_worlds hidden true u l ds body after tops silents this) (unsaid_programs u xs (program l ds body) (program l ds after) silents unsilent this)
    (λ x e m k. rw (unsilent_scope u (program l ds after) x (ap (λ es. is_silent es x) silents ∙ unsilent x e)) (asks_declared (top_in after) x m k))
    l ds rows (using_split rows) _ _ (start_same hidden (top_in body) (top_in after) tops n moves))
