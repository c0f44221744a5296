-- The catch clause of object rest: the pattern is bound in a block inside.
use Rattle.std.proofs.Common.{◌≡◌, refl, sym, subst, List, [], ◌∷◌, ap, ◌∙◌}
use Rattle.std.specs.Prelude.{ℕ, Bool, true, false, not, ◌&&◌, ◌||◌, Option, Some, None, codes, bytes_eq, if◌then◌else◌}
use Rattle.es_tree.specs.Words.{Text}
use Rattle.es_tree.specs.Scopes.{Declared}
use Rattle.es_tree.specs.Tree.{Tree, Label, Trees, done, ◌then◌, one, empty, ◌before◌}
use Rattle.es_tree.specs.declared.ast_type.AstType.TheVariants.{CatchClause}
use Rattle.es_runs.specs.Machine.{stop, Value, M, ◌>>=◌, return, set_cell, with_cell, Cell, Move, Question, State, Stop, Result, onward}
use Rattle.es_runs.specs.Machine.Stop.{continues, throws, breaks}
use Rattle.es_runs.specs.Machine.OwnValue.{contents, stack}
use Rattle.es_runs.specs.Machine.State.{state}
use Rattle.es_runs.specs.Machine.Result.{gives, stops}
use Rattle.es_runs.specs.Machine.Value.{undefined, own}
use Rattle.es_runs.specs.Machine.Cell.{holds}
use Rattle.es_runs.specs.Machine.Values.{none, ◌and◌}
use Rattle.es_runs.specs.Core.{World, Binding, Meaning, value, name, in_order, as_plain, get_value, settle}
use Rattle.es_runs.specs.Core.Binding.{changeable}
use Rattle.es_runs.specs.Alike.{Frame, Agree, Same, Alike, Equal, SameWorld}
use Rattle.es_runs.specs.Alike.Agree.{agree}
use Rattle.es_runs.specs.Alike.Same.{both_give, both_stop, outside, at_fault}
use Rattle.es_runs.specs.Runs.{program, only, identifier, binding_of}
use Rattle.es_runs.proofs.Congruence.{nothing_like}
use Rattle.es_runs.proofs.Temporary.{bytes_eq-self, bytes_eq-flip, plain_again, onward_onward}
use Rattle.es_runs.proofs.Basic.{onward_same}
use Rattle.es_statement_runs.specs.Stacks.{pending_in, entries_in, new_stack, on_own_stack, on_stack_in, failed_with, all_disposed, own_cells, with_stack_where, emptied, in_scope}
use Rattle.es_statement_runs.specs.Scopes.{contents_cell, is_own_cell, shadowed, put_back, leave, left, scoped, stack_cell}
use Rattle.es_statement_runs.specs.Alike.{Told, Quiet, StackSeen, MoreLike, all_visible, SenseLike, PutterLike}
use Rattle.es_statement_runs.specs.Alike.MoreLike.{same_handles, same_aims}
use Rattle.es_statement_runs.proofs.OwnCells.{own_apart}
use Rattle.es_statement_runs.proofs.Programs.{top_world, rows_run}
use Rattle.es_statement_runs.specs.Patterns.{Putter, object_pattern}
use Rattle.es_statement_runs.specs.Helpers.{Supply}
use Rattle.es_statement_runs.specs.Names.{top_in, using_in, names_of_all, own_names, lexical_in}
use Rattle.es_statement_runs.specs.Kinds.{sense, found, kind_in, senses}
use Rattle.es_statement_runs.specs.Places.{SupplySeen, placed_at, all_good, Take, value_taken, avoids, target_taken}
use Rattle.es_statement_runs.specs.Runs.{start_cells}
use Rattle.es_statement_runs.specs.Laws.{apart_from, bad_with, CatchPatternRow, LawCatchPattern, object_pattern_at, let_statement, declare_statement, block_of}
use Rattle.es_statement_runs.specs.Laws.CatchPatternRow.{catch_pattern_row}
use Rattle.es_statement_runs.proofs.Catches.{all_told, declared_putter, own_binding, one_quiet, one_stack, below_anywhere, any_self, undeclared_hidden}
use Rattle.es_statement_runs.proofs.Using.{disposed_nothing}
use Rattle.es_statement_runs.proofs.PatternsAlike.{put_alike_then}
use Rattle.es_statement_runs.proofs.KindsAlike.{inner_same, inner}
use Rattle.es_statement_runs.proofs.Combinators.{scope_alike}
use Rattle.es_statement_runs.proofs.Everywhere.{visible_good, close_like, close_self}
use Rattle.es_statement_runs.proofs.Everywhere.PlaceLike.{place_like}
use Rattle.es_statement_runs.specs.Senses.{ends, cores, members_in}
use Rattle.es_statement_runs.specs.Senses.More.{aims}

-- A FRAME: x holds u in the second program

abbrev holding : Text → Value → Frame
holding x u = record { hidden = only x; fits = λ c y d. d ≡ holds u; frozen = λ y. false; keeps = λ y d. Unit {0}; faults_outside = false; loose = λ y. false; steady = λ c e h y k d g. g }

module _ (x : Text) (u : Value) where
  away : (y : Text) → only x y ≡ false → bytes_eq x y ≡ false
  away y e = bytes_eq-flip x y ∙ e

  hide_holding : {A B : Type 0} {R : A → B → Type 0} {m : M A} {k : M B} → Alike (holding x u) R m k → Alike (apart_from x) R m (scoped (x ∷ []) (set_cell x u >>= λ _. k))
  hide_holding {A} {B} {R} h _ _ (agree {c = c} {d = d} {ms = ms} {qs = qs} f g i) = back (h _ _ (agree (λ y j. inside y j) (λ y j. (rw j refl)) (λ y j. tt)))
    where
      inside : (y : Text) → only x y ≡ false → with_cell x u (shadowed (x ∷ []) d) y ≡ c y
      inside y j = rw (j, away y j) (f y j)

      out : (a b : Text → Cell) (y : Text) → only x y ≡ false → b y ≡ a y → put_back (x ∷ []) d b y ≡ a y
      out a b y j k = rw (away y j, k)

      leaves : {s t : State} → Agree (holding x u) s t → Agree (apart_from x) s (leave (x ∷ []) d t)
      leaves (agree {c = a} {d = b} p q r) = agree (λ y j. out a b y j (p y j)) (λ y j. tt) (λ y j. tt)

      back : {r : Result A} {q : Result B} → Same (holding x u) R r q → Same (apart_from x) R r (left (x ∷ []) d q)
      back (both_give k a) = both_give k (leaves a)
      back (both_stop a) = both_stop (leaves a)
      back outside = outside
      back (at_fault k) = absurd (cc k)

-- A BLOCK GIVES UNDEFINED

abbrev nothing_then : Value → M Value
nothing_then z = return undefined

order_step : (w : World) (es : List Meaning) (r : Result Value) → ((t : State) → onward (in_order w es t) nothing_then ≡ in_order w es t) → onward (onward r (λ v. in_order w es)) nothing_then ≡ onward r (λ v. in_order w es)
order_step w es (gives a t) h = h t
order_step w es (stops m t) h = refl

order_nothing : (w : World) (es : List Meaning) (s : State) → onward (in_order w es s) nothing_then ≡ in_order w es s
order_nothing w [] s = refl
order_nothing w (e ∷ es) s = order_step w es (value w e s) (λ t. order_nothing w es t)

left_nothing : (xs : List Text) (c : Text → Cell) (r : Result Value) → onward (left xs c r) nothing_then ≡ left xs c (onward r nothing_then)
left_nothing xs c (gives a (state d ms qs)) = refl
left_nothing xs c (stops m (state d ms qs)) = refl

all_nothing : (n : ℕ) (s : State) → onward (all_disposed n s) nothing_then ≡ all_disposed n s
all_nothing n (state c ms qs) = disposed_nothing (entries_in (c (contents_cell n))) (pending_in (c (contents_cell n))) (with_cell (contents_cell n) (own (contents none none)) c) ms qs

failed_nothing : (v : Value) (n : ℕ) (s : State) → onward ((failed_with n v >>= λ _. all_disposed n) s) nothing_then ≡ (failed_with n v >>= λ _. all_disposed n) s
failed_nothing v n (state c ms qs) = all_nothing n (state (with_cell (contents_cell n) (own (contents (v and none) (entries_in (c (contents_cell n))))) c) ms qs)

by_cell : (f : ℕ → M Value) → ((n : ℕ) (s : State) → onward (f n s) nothing_then ≡ f n s) → (d : Cell) (s : State) → onward (on_stack_in f d s) nothing_then ≡ on_stack_in f d s
by_cell f h (holds (own (stack n))) s = h n s
by_cell f h _ s = refl

own_nothing : (f : ℕ → M Value) → ((n : ℕ) (s : State) → onward (f n s) nothing_then ≡ f n s) → (s : State) → onward (on_own_stack f s) nothing_then ≡ on_own_stack f s
own_nothing f h (state c ms qs) = by_cell f h (c stack_cell) (state c ms qs)

stop_nothing : (w : Stop) (r : Result Value) → onward (onward r (λ _. stop w)) nothing_then ≡ onward r (λ _. stop w)
stop_nothing w (gives a s) = refl
stop_nothing w (stops k s) = refl

emptied_nothing : (r : Result Value) → onward (emptied r) nothing_then ≡ emptied r
emptied_nothing (gives a s) = own_nothing all_disposed all_nothing s
emptied_nothing (stops (throws v) s) = own_nothing (λ n. failed_with n v >>= λ _. all_disposed n) (failed_nothing v) s
emptied_nothing (stops (breaks l) s) = stop_nothing (breaks l) (on_own_stack all_disposed s)
emptied_nothing (stops (continues l) s) = stop_nothing (continues l) (on_own_stack all_disposed s)
emptied_nothing (stops _ s) = refl

stack_nothing : (b : Bool) (w : World) (es : List Meaning) (s : State) → onward (with_stack_where b (in_order w es) s) nothing_then ≡ with_stack_where b (in_order w es) s
stack_nothing true w es s = emptied_nothing ((new_stack >>= λ k. set_cell stack_cell k >>= λ _. in_order w es) s)
stack_nothing false w es s = order_nothing w es s

scope_nothing : (b : Bool) (N : List Text) (w : World) (es : List Meaning) (s : State) → onward (in_scope (record { names = N; uses = b }) (in_order w es) s) nothing_then ≡ in_scope (record { names = N; uses = b }) (in_order w es) s
scope_nothing b N w es (state c ms qs) =
    let xs : List Text = own_cells (record { names = N; uses = b }) in
    left_nothing xs c (with_stack_where b (in_order w es) (state (shadowed xs c) ms qs)) ∙ ap (left xs c) (stack_nothing b w es (state (shadowed xs c) ms qs))

-- THE PATTERN

-- what the declarator does with what its pattern ends in
settled_pattern : (v : World) (lets : Bool) (r : Result Value) → onward (onward (onward (onward r as_plain) (λ q. settle lets q >>= λ z. return undefined)) as_plain) (get_value v) ≡ onward r nothing_then
settled_pattern v true (gives a s) = refl
settled_pattern v false (gives a s) = refl
settled_pattern v lets (stops m s) = refl

pub aims_like : {F : Frame} {m k : M Putter} → MoreLike F (aims m) (aims k) → Alike F (PutterLike F) m k
aims_like (same_aims h) = h

kept_all : (x : Text) (ds : List Declared) → all_good (bad_with x) (names_of_all ds) ≡ true → (w v : World) → Unit {0} → Unit {0}
kept_all x ds h w v k = tt

unseen_step : (a b : Bool) (kind : Text) (rest : Option Text) → (not (a || false) && b) ≡ true → (b ≡ true → rest ≡ None) → (if a then Some kind else rest) ≡ None
unseen_step true b kind rest h g = absurd (cc h)
unseen_step false b kind rest h g = g h

unseen : (x : Text) (ds : List Declared) → all_good (bad_with x) (names_of_all ds) ≡ true → kind_in ds x ≡ None
unseen x [] h = refl
unseen x (d ∷ ds) h = rw (bytes_eq-flip x d.name) (unseen_step (bytes_eq d.name x) (all_good (bad_with x) (names_of_all ds)) d.kind (kind_in ds x) h (unseen x ds))

module _ (held kind x : Text) (u : Value) (math : bytes_eq (codes "Math") x ≡ false) (no_own : is_own_cell x ≡ false) (o : Supply) (supply : SupplySeen (apart_from x) o) (w v : World) (same : SameWorld (only x) w v)
    (pm dm bm : Label) (ps bs : Trees) (avoid_p : avoids (bad_with x) target_taken (object_pattern_at pm ps) ≡ true) (avoid_b : avoids (bad_with x) value_taken (block_of bm bs) ≡ true)
    (D : List Declared) (good : all_good (bad_with x) (names_of_all D) ≡ true) where
  abbrev H : Frame
  H = holding x u

  abbrev v1 : World
  v1 = inner v (record { name = x; kind = held } ∷ [])

  abbrev w1 : World
  w1 = inner w D

  abbrev v2 : World
  v2 = inner v1 D

  abbrev P : Tree
  P = object_pattern_at pm ps

  abbrev Bl : Tree
  Bl = block_of bm bs

  hold_quiet : Quiet H
  hold_quiet = record { own_seen = λ y e i. record { hidden = own_apart x y no_own e; frozen = refl; loose = refl }; math = math }

  hold_stack : StackSeen H
  hold_stack = record { hidden = own_apart x stack_cell no_own refl; frozen = refl; loose = refl }

  hold_told : Told H (bad_with x) o
  hold_told = all_told (only x) H (λ y. refl) o supply

  outer_same : SameWorld (only x) w v1
  outer_same = record { scope = λ y e. rw e (same.scope y e); this = same.this; counts = same.counts }

  part : (t : Take) (a : Tree) → avoids (bad_with x) t a ≡ true → SenseLike H w1 v2 t (sense (placed_at o w1 [] []) a) (sense (placed_at o v2 [] []) a)
  part t a h = close_like H hold_quiet hold_stack (bad_with x) (below_anywhere (only x)) o hold_told (λ w v. Unit {0}) (kept_all x) (λ t a b. ⊥) (λ t a b e. absurd e) (close_self (bad_with x) (λ t a b. ⊥) a t h) (place_like (inner_same H hold_quiet D w v1 outer_same) tt)

  abbrev source_pattern : M Value
  source_pattern = object_pattern (members_in (senses (placed_at o w1 [] []) ps)) u

  abbrev target_pattern : M Value
  target_pattern = object_pattern (members_in (senses (placed_at o v2 [] []) ps)) u

  pattern_alike : Alike H Equal source_pattern target_pattern
  pattern_alike = put_alike_then H (aims_like ((part target_taken P avoid_p).more refl)) u

  x_bound : v2.scope x ≡ binding_of held
  x_bound = ap (λ (e : Option Text). found e x v1.scope x) (unseen x D good) ∙ (rw (bytes_eq-self x) refl)

  declares_by : (b : Bool) → v2.scope x ≡ (if b then Binding.constant else changeable) → (d : Text → Cell) (ms : List Move) (qs : List Question) → d x ≡ holds u → value v2 (sense (placed_at o v2 [] []) (declare_statement kind dm P (identifier x))).core (state d ms qs) ≡ onward (target_pattern (state d ms qs)) nothing_then
  declares_by true e d ms qs h = rw (e, h) (settled_pattern v2 (bytes_eq kind (codes "let")) (target_pattern (state d ms qs)))
  declares_by false e d ms qs h = rw (e, h) (settled_pattern v2 (bytes_eq kind (codes "let")) (target_pattern (state d ms qs)))

  declares : (d : Text → Cell) (ms : List Move) (qs : List Question) → d x ≡ holds u → value v2 (sense (placed_at o v2 [] []) (declare_statement kind dm P (identifier x))).core (state d ms qs) ≡ onward (target_pattern (state d ms qs)) nothing_then
  declares = declares_by (bytes_eq held (codes "const")) x_bound

  -- the block inside gives undefined
  block_nothing : (s : State) → onward (value v2 (sense (placed_at o v2 [] []) Bl).core s) nothing_then ≡ value v2 (sense (placed_at o v2 [] []) Bl).core s
  block_nothing s =
      let es : List Meaning = cores (senses (placed_at o (inner v2 (lexical_in bs)) [] []) bs) in
      let k : M Value = in_scope (record { names = names_of_all (lexical_in bs); uses = using_in bs }) (in_order (inner v2 (lexical_in bs)) es) in
      ap (λ (r : Result Value). onward r nothing_then) (plain_again v2 (k s)) ∙ (scope_nothing (using_in bs) (names_of_all (lexical_in bs)) (inner v2 (lexical_in bs)) es s ∙ sym (plain_again v2 (k s)))

  block_alike : Alike H Equal (value w1 (sense (placed_at o w1 [] []) Bl).core) (value v2 (sense (placed_at o v2 [] []) Bl).core >>= nothing_then)
  block_alike s t a = rw (block_nothing t) ((part value_taken Bl avoid_b).core.evaluation s t a)

  abbrev source_inner : M Value
  source_inner = source_pattern >>= λ z. value w1 (sense (placed_at o w1 [] []) Bl).core

  abbrev target_inner : M Value
  target_inner = in_order v2 (cores (senses (placed_at o v2 [] []) (declare_statement kind dm P (identifier x) before Bl before empty)))

  inner_alike : Alike H Equal source_inner target_inner
  inner_alike _ _ (agree {c = c} {d = d} {ms = ms} {qs = qs} f g i) =
      rw (declares d ms qs (g x (bytes_eq-self x)), onward_onward (target_pattern (state d ms qs)) nothing_then (λ z. value v2 (sense (placed_at o v2 [] []) Bl).core >>= nothing_then))
      (onward_same H (pattern_alike _ _ (agree f g i)) (λ a b e. block_alike))

  abbrev N : List Text
  N = names_of_all D

  abbrev block_runs : List Declared → M Value
  block_runs es = in_scope (record { names = names_of_all es; uses = false }) (in_order (inner v1 es) (cores (senses (placed_at o (inner v1 es) [] []) (declare_statement kind dm P (identifier x) before Bl before empty))))

  visible : all_visible H N ≡ true
  visible = visible_good H (bad_with x) (below_anywhere (only x)) N good

  block_value : Alike H Equal (in_scope (record { names = N; uses = false }) source_inner) (value v1 (ends (block_runs D)).core)
  block_value s t a = rw (plain_again v1) (scope_alike H hold_quiet (record { names = N; uses = false }) (λ e. absurd (cc e)) visible inner_alike s t a)

  pub clause_alike : (es : List Declared) → es ≡ D → Alike (apart_from x) Equal (in_scope (record { names = N; uses = false }) source_inner) (scoped (x ∷ []) (set_cell x u >>= λ z. value v1 (ends (block_runs es)).core))
  clause_alike es e = subst (λ (fs : List Declared). Alike (apart_from x) Equal (in_scope (record { names = N; uses = false }) source_inner) (scoped (x ∷ []) (set_cell x u >>= λ z. value v1 (ends (block_runs fs)).core))) (sym e) (hide_holding x u block_value)

module _ (x : Text) (math : bytes_eq (codes "Math") x ≡ false) (no_own : is_own_cell x ≡ false) (o : Supply) (supply : SupplySeen (apart_from x) o) where
  pattern_like : (t : Take) (a b : Tree) → CatchPatternRow x t a b → (w v : World) → SameWorld (only x) w v → Unit {0} → (ls : List Text) (y : Text) → SenseLike (apart_from x) w v t (sense (placed_at o w ls y) a) (sense (placed_at o v ls y) b)
  pattern_like t _ _ (catch_pattern_row {m = m} {pm = pm} {dm = dm} {n = n} {bm = bm} {ps = ps} {bs = bs} avoid_p avoid_b names good) w v same k ls y =
      rw (own_binding v x (codes "let"), declared_putter o (inner v (record { name = x; kind = codes "let" } ∷ [])) (codes "let") (name x)) (record {
        core = nothing_like (apart_from x) w v same t.need;
        more = λ _. same_handles (λ u. clause_alike (codes "let") (codes "let") x u math no_own o supply w v same pm dm bm ps bs avoid_p avoid_b (own_names CatchClause (one (object_pattern_at pm ps) then one (block_of bm bs) then done)) good
            (lexical_in (let_statement dm (object_pattern_at pm ps) (identifier x) before block_of bm bs before empty)) names);
      })

pub law_catch_pattern_proof : LawCatchPattern
law_catch_pattern_proof u x l ds body after rows tops uses silents math no_own supply undeclared =
    rows_run (apart_from x) (one_quiet x math no_own) (one_stack x no_own) (bad_with x) (below_anywhere (only x)) u l ds body after [] (all_told (only x) (apart_from x) (λ y. refl) u supply) (λ w v. Unit {0}) (λ es vis w v k. tt) (CatchPatternRow x) (pattern_like x math no_own u supply) rows uses
    (top_world u (only x) (program l ds body) (program l ds after) tops silents) (λ this. tt) (λ n moves. rw tops (any_self x (state (start_cells n (top_in body)) moves []))) (undeclared_hidden x (top_in body) undeclared)
