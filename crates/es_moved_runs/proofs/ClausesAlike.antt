-- A pattern is bound in a scope, and its value is used by a block: so it is where the value is held by a name, and the block inside declares the pattern
-- with that.
use Rattle.std.proofs.Common.{◌≡◌, refl, sym, subst, List, [], ◌∷◌, ap, ◌∙◌}
use Rattle.std.specs.Prelude.{Bool, true, false, Option, codes, bytes_eq, if◌then◌else◌}
use Rattle.es_tree.specs.Words.{Text}
use Rattle.es_tree.specs.Scopes.{Declared}
use Rattle.es_tree.specs.Tree.{Tree, Label, Trees, ◌then◌, empty, ◌before◌}
use Rattle.es_runs.specs.Machine.{Cell, M, Move, Question, Result, State, Value, onward, set_cell, ◌>>=◌}
use Rattle.es_runs.specs.Machine.Cell.{holds}
use Rattle.es_runs.specs.Machine.State.{state}
use Rattle.es_runs.specs.Core.{Binding, Meaning, World, in_order, value}
use Rattle.es_runs.specs.Core.Binding.{changeable}
use Rattle.es_runs.specs.Alike.{Alike, Equal, Frame, SameWorld}
use Rattle.es_runs.specs.Alike.Agree.{agree}
use Rattle.es_runs.specs.Runs.{binding_of, identifier, only}
use Rattle.es_runs.proofs.Temporary.{bytes_eq-self, onward_onward, plain_again}
use Rattle.es_runs.proofs.Basic.{onward_same}
use Rattle.es_statement_runs.specs.Alike.{Quiet, SenseLike, StackSeen, all_visible}
use Rattle.es_statement_runs.specs.Helpers.{Supply}
use Rattle.es_statement_runs.specs.Kinds.{found, sense, senses}
use Rattle.es_statement_runs.specs.Laws.{apart_from, block_of, declare_statement, object_pattern_at}
use Rattle.es_statement_runs.specs.Names.{lexical_in, names_of_all, using_in}
use Rattle.es_statement_runs.specs.Patterns.{object_pattern}
use Rattle.es_statement_runs.specs.Places.{SupplySeen, Take, all_good, avoids, placed_at, target_taken, value_taken}
use Rattle.es_statement_runs.specs.Scopes.{is_own_cell, scoped, stack_cell}
use Rattle.es_statement_runs.specs.Senses.{cores, ends, members_in}
use Rattle.es_statement_runs.specs.Stacks.{in_scope}
use Rattle.es_statement_runs.proofs.BareVars.{Unsaid, beside_like, said_alike_from, self_beside, unsaid_inside}
use Rattle.es_statement_runs.proofs.BareVars.Places.{both_at}
use Rattle.es_statement_runs.proofs.CatchPatterns.{aims_like}
use Rattle.es_statement_runs.proofs.Combinators.{scope_alike}
use Rattle.es_statement_runs.proofs.Everywhere.{visible_good}
use Rattle.es_statement_runs.proofs.KindsAlike.{inner, inner_same}
use Rattle.es_statement_runs.proofs.OwnCells.{own_apart}
use Rattle.es_statement_runs.proofs.PatternsAlike.{put_alike_then}
use Rattle.es_moved_runs.proofs.BlocksGiveNothing.{nothing_then, scope_nothing, settled_pattern}
use Rattle.es_moved_runs.proofs.HeldNames.{bad_alone, hide_holding, holding, unseen}

module _ (held kind x : Text) (u : Value) (math : bytes_eq (codes "Math") x ≡ false) (no_own : is_own_cell x ≡ false) (o : Supply) (supply : SupplySeen (apart_from x) o) (w v : World) (same : SameWorld (only x) w v) (unsaid : Unsaid (only x) w v)
    (pm dm bm : Label) (ps bs : Trees) (avoid_p : avoids (bad_alone x) target_taken (object_pattern_at pm ps) ≡ true) (avoid_b : avoids (bad_alone x) value_taken (block_of bm bs) ≡ true)
    (D : List Declared) (good : all_good (bad_alone x) (names_of_all D) ≡ true) where
  abbrev H : Frame
  H = holding x u

  abbrev held_name : List Declared
  held_name = record { name = x; kind = held } ∷ []

  abbrev v1 : World
  v1 = inner v held_name

  abbrev w1 : World
  w1 = inner w D

  abbrev v2 : World
  v2 = inner v1 D

  abbrev P : Tree
  P = object_pattern_at pm ps

  abbrev Bl : Tree
  Bl = block_of bm bs

  hold_quiet : Quiet H
  hold_quiet = record { own_seen = λ y e i. record { hidden = own_apart x y no_own e; frozen = refl; loose = refl }; math = math }

  hold_stack : StackSeen H
  hold_stack = record { hidden = own_apart x stack_cell no_own refl; frozen = refl; loose = refl }

  hold_seen : (s : Supply) → SupplySeen (apart_from x) s → SupplySeen H s
  hold_seen Supply.no_helpers h = tt
  hold_seen Supply.spread_by_global h = record { global = h.global; require = h.require }
  hold_seen Supply.by_global h = record { global = h.global; require = h.require }
  hold_seen (Supply.by_import m) h = record { global = h.global; require = h.require }
  hold_seen (Supply.by_require m) h = record { global = h.global; require = h.require }

  outer_same : SameWorld (only x) w v1
  outer_same = record { scope = λ y e. rw e (same.scope y e); this = same.this; counts = same.counts }

  unsaid_outer : Unsaid (only x) w v1
  unsaid_outer y e = ((unsaid y e).0, (unsaid_inside (only x) held_name w v unsaid y e).1)

  part : (t : Take) (a : Tree) → avoids (bad_alone x) t a ≡ true → SenseLike H w1 v2 t (sense (placed_at o w1 [] []) a) (sense (placed_at o v2 [] []) a)
  part t a h = beside_like H hold_quiet hold_stack (bad_alone x) (λ n y k. k) o (hold_seen o supply) (λ ds w v. Unsaid (only x) w v) (λ ds w v same k. said_alike_from H o w v same k) (λ ds es vis w v k. unsaid_inside (only x) es w v k)
      (λ ds t a b. ⊥) (λ ds t a b e. absurd e) (self_beside (bad_alone x) (λ ds t a b. ⊥) a [] t h) (both_at (inner_same H hold_quiet D w v1 outer_same) (unsaid_inside (only x) D w v1 unsaid_outer))

  abbrev source_pattern : M Value
  source_pattern = object_pattern (members_in (senses (placed_at o w1 [] []) ps)) u

  abbrev target_pattern : M Value
  target_pattern = object_pattern (members_in (senses (placed_at o v2 [] []) ps)) u

  pattern_alike : Alike H Equal source_pattern target_pattern
  pattern_alike = put_alike_then H (aims_like ((part target_taken P avoid_p).more refl)) u

  x_bound : v2.scope x ≡ binding_of held
  x_bound = ap (λ (e : Option Text). found e x v1.scope x) (unseen x D good) ∙ (rw (bytes_eq-self x) refl)

  declares_by : (b : Bool) → v2.scope x ≡ (if b then Binding.constant else changeable) → (d : Text → Cell) (ms : List Move) (qs : List Question) → d x ≡ holds u → value v2 (sense (placed_at o v2 [] []) (declare_statement kind dm P (identifier x))).core (state d ms qs) ≡ onward (target_pattern (state d ms qs)) nothing_then
  declares_by true e d ms qs h = rw (e, h) (settled_pattern v2 (bytes_eq kind (codes "let")) (target_pattern (state d ms qs)))
  declares_by false e d ms qs h = rw (e, h) (settled_pattern v2 (bytes_eq kind (codes "let")) (target_pattern (state d ms qs)))

  declares : (d : Text → Cell) (ms : List Move) (qs : List Question) → d x ≡ holds u → value v2 (sense (placed_at o v2 [] []) (declare_statement kind dm P (identifier x))).core (state d ms qs) ≡ onward (target_pattern (state d ms qs)) nothing_then
  declares = declares_by (bytes_eq held (codes "const")) x_bound

  -- the block inside gives undefined
  block_nothing : (s : State) → onward (value v2 (sense (placed_at o v2 [] []) Bl).core s) nothing_then ≡ value v2 (sense (placed_at o v2 [] []) Bl).core s
  block_nothing s =
      let es : List Meaning = cores (senses (placed_at o (inner v2 (lexical_in bs)) [] []) bs) in
      let k : M Value = in_scope (record { names = names_of_all (lexical_in bs); uses = using_in bs }) (in_order (inner v2 (lexical_in bs)) es) in
      ap (λ (r : Result Value). onward r nothing_then) (plain_again v2 (k s)) ∙ (scope_nothing (using_in bs) (names_of_all (lexical_in bs)) (inner v2 (lexical_in bs)) es s ∙ sym (plain_again v2 (k s)))

  block_alike : Alike H Equal (value w1 (sense (placed_at o w1 [] []) Bl).core) (value v2 (sense (placed_at o v2 [] []) Bl).core >>= nothing_then)
  block_alike s t a = rw (block_nothing t) ((part value_taken Bl avoid_b).core.evaluation s t a)

  abbrev source_inner : M Value
  source_inner = source_pattern >>= λ z. value w1 (sense (placed_at o w1 [] []) Bl).core

  abbrev target_inner : M Value
  target_inner = in_order v2 (cores (senses (placed_at o v2 [] []) (declare_statement kind dm P (identifier x) before Bl before empty)))

  inner_alike : Alike H Equal source_inner target_inner
  inner_alike _ _ (agree {c = c} {d = d} {ms = ms} {qs = qs} f g i) =
      rw (declares d ms qs (g x (bytes_eq-self x)), onward_onward (target_pattern (state d ms qs)) nothing_then (λ z. value v2 (sense (placed_at o v2 [] []) Bl).core >>= nothing_then))
      (onward_same H (pattern_alike _ _ (agree f g i)) (λ a b e. block_alike))

  abbrev N : List Text
  N = names_of_all D

  abbrev block_runs : List Declared → M Value
  block_runs es = in_scope (record { names = names_of_all es; uses = false }) (in_order (inner v1 es) (cores (senses (placed_at o (inner v1 es) [] []) (declare_statement kind dm P (identifier x) before Bl before empty))))

  visible : all_visible H N ≡ true
  visible = visible_good H (bad_alone x) (λ n y k. k) N good

  block_value : Alike H Equal (in_scope (record { names = N; uses = false }) source_inner) (value v1 (ends (block_runs D)).core)
  block_value s t a = rw (plain_again v1) (scope_alike H hold_quiet (record { names = N; uses = false }) (λ e. absurd (cc e)) visible inner_alike s t a)

  pub clause_alike : (es : List Declared) → es ≡ D → Alike (apart_from x) Equal (in_scope (record { names = N; uses = false }) source_inner) (scoped (x ∷ []) (set_cell x u >>= λ z. value v1 (ends (block_runs es)).core))
  clause_alike es e = subst (λ (fs : List Declared). Alike (apart_from x) Equal (in_scope (record { names = N; uses = false }) source_inner) (scoped (x ∷ []) (set_cell x u >>= λ z. value v1 (ends (block_runs fs)).core))) (sym e) (hide_holding x u block_value)
