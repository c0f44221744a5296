-- The row of optional catch, and what a scope with a hidden name does.
use Rattle.std.specs.Prelude.{if◌then◌else◌, Bool, true, false, ◌||◌, codes, bytes_eq}
use Rattle.std.proofs.Common.{◌∙◌, ◌≡◌, refl, List, [], ◌∷◌, ap}
use Rattle.std.proofs.lemmas.Slice.Eq.{bytes_eq-Decides}
use Rattle.es_tree.specs.Words.{Text}
use Rattle.es_tree.specs.Scopes.{Declared}
use Rattle.es_tree.specs.Tree.{Tree}
use Rattle.es_runs.specs.Core.{World, Meaning, name}
use Rattle.es_runs.specs.Core.Binding.{constant, changeable}
use Rattle.es_runs.specs.Runs.{binding_of, program, only, is_declared}
use Rattle.es_runs.specs.Machine.{Value, M, ◌>>=◌, return, set_cell, with_cell, Cell, State, Result}
use Rattle.es_runs.specs.Machine.State.{state}
use Rattle.es_runs.specs.Alike.{Frame, Agree, Same, Alike, SameWorld, Level, bad_names}
use Rattle.es_runs.specs.Alike.Level.{a_target}
use Rattle.es_runs.specs.Alike.Agree.{agree}
use Rattle.es_runs.specs.Alike.Same.{both_give, both_stop, outside, at_fault}
use Rattle.es_runs.proofs.Congruence.{nothing_like}
use Rattle.es_runs.proofs.Temporary.{bytes_eq-self, bytes_eq-flip}
use Rattle.es_statement_runs.specs.Helpers.{Supply}
use Rattle.es_statement_runs.specs.Helpers.Supply.{by_require, no_helpers, by_global, by_import, spread_by_global}
use Rattle.es_statement_runs.specs.Scopes.{stack_cell, is_own_cell, shadowed, put_back, leave, left, scoped}
use Rattle.es_statement_runs.proofs.Programs.{top_world, rows_run}
use Rattle.es_statement_runs.proofs.OwnCells.{own_apart}
use Rattle.es_statement_runs.specs.Senses.{said_in, putter_by, reference_putter}
use Rattle.es_statement_runs.specs.Alike.{Told, Quiet, StackSeen, SenseLike}
use Rattle.es_statement_runs.specs.Alike.MoreLike.{same_handles}
use Rattle.es_statement_runs.specs.Names.{top_in, names_of_all}
use Rattle.es_statement_runs.specs.Kinds.{sense}
use Rattle.es_statement_runs.specs.Places.{SupplySeen, placed_at, all_good, bad_anywhere, Take, value_taken, avoids}
use Rattle.es_statement_runs.specs.Runs.{start_cells}
use Rattle.es_statement_runs.specs.Laws.{any_cells, apart_from, bad_with, CatchRow, LawCatch}
use Rattle.es_statement_runs.specs.Laws.CatchRow.{catch_row}
use Rattle.es_statement_runs.proofs.Everywhere.{close_like, close_self}
use Rattle.es_statement_runs.proofs.Everywhere.PlaceLike.{place_like}
use Rattle.es_statement_runs.proofs.KindsAlike.{inner}

-- HIDDEN NAMES OF WHICH NOTHING IS KNOWN

module _ (hidden : Text → Bool) where
  abbrev F : Frame
  F = any_cells hidden

  not_here : (x y : Text) → hidden x ≡ true → hidden y ≡ false → (b : Bool) → bytes_eq x y ≡ b → b ≡ false
  not_here x y h g false e = refl
  not_here x y h g true e = let i : x ≡ y = (bytes_eq-Decides x y).0 e in let j : hidden x ≡ hidden y = ap hidden i in absurd (cc)

  other : (x y : Text) → hidden x ≡ true → hidden y ≡ false → bytes_eq x y ≡ false
  other x y h g = not_here x y h g (bytes_eq x y) refl

  -- a scope of the second program may declare one name more
  pub hide_scope : {A B : Type 0} {R : A → B → Type 0} (x : Text) (xs : List Text) → hidden x ≡ true → {m : M A} {k : M B} → Alike F R m k → Alike F R (scoped xs m) (scoped (x ∷ xs) k)
  hide_scope {A} {B} {R} x xs e h _ _ (agree {c = c} {d = d} {ms = ms} {qs = qs} f g i) = back (h _ _ (agree (λ y j. inside y j) (λ y j. tt) (λ y j. tt)))
    where
      inside : (y : Text) → hidden y ≡ false → shadowed (x ∷ xs) d y ≡ shadowed xs c y
      inside y j = rw (other x y e j, f y j)

      out : (a b : Text → Cell) (y : Text) → hidden y ≡ false → b y ≡ a y → put_back (x ∷ xs) d b y ≡ put_back xs c a y
      out a b y j k = rw (other x y e j, f y j, k)

      leaves : {s t : State} → Agree F s t → Agree F (leave xs c s) (leave (x ∷ xs) d t)
      leaves (agree {c = a} {d = b} p q r) = agree (λ y j. out a b y j (p y j)) (λ y j. tt) (λ y j. tt)

      back : {r : Result A} {q : Result B} → Same F R r q → Same F R (left xs c r) (left (x ∷ xs) d q)
      back (both_give k a) = both_give k (leaves a)
      back (both_stop a) = both_stop (leaves a)
      back outside = outside
      back (at_fault k) = at_fault k

  -- and may set it
  pub hide_set : {A B : Type 0} {R : A → B → Type 0} (x : Text) (u : Value) → hidden x ≡ true → {m : M A} {k : M B} → Alike F R m k → Alike F R m (set_cell x u >>= λ _. k)
  hide_set x u e h _ _ (agree {c = c} {d = d} {ms = ms} {qs = qs} f g i) = h _ _ (agree (λ y j. unchanged y j) (λ y j. tt) (λ y j. tt))
    where
      unchanged : (y : Text) → hidden y ≡ false → with_cell x u d y ≡ c y
      unchanged y j = rw (bytes_eq-flip y x, other x y e j) (f y j)

module _ (hidden : Text → Bool) where
  pub bad_seen : (n : Level) (x : Text) → bad_anywhere (any_cells hidden) n x ≡ false → hidden x ≡ false
  bad_seen Level.no_evaluation x h = h
  bad_seen a_target x h = at (hidden x) h
    where
      at : (b : Bool) → (b || false) ≡ false → b ≡ false
      at true k = absurd (cc k)
      at false k = refl
  bad_seen _ x h = h

  pub below_anywhere : (n : Level) (x : Text) → bad_anywhere (any_cells hidden) n x ≡ false → bad_names hidden (λ y. false) n x ≡ false
  below_anywhere Level.no_evaluation x h = refl
  below_anywhere _ x h = h

  -- names that are hidden are bad anywhere
  pub all_told : (F : Frame) → ((x : Text) → F.hidden x ≡ hidden x) → (u : Supply) → SupplySeen (any_cells hidden) u → Told F (bad_anywhere (any_cells hidden)) u
  all_told F same no_helpers seen = tt
  all_told F same spread_by_global seen = record { helpers = record { global = same (codes "babelHelpers") ∙ seen.global; require = same (codes "require") ∙ seen.require }; names = λ n x h. same x ∙ bad_seen n x h }
  all_told F same by_global seen = record { helpers = record { global = same (codes "babelHelpers") ∙ seen.global; require = same (codes "require") ∙ seen.require }; names = λ n x h. same x ∙ bad_seen n x h }
  all_told F same (by_import m) seen = record { helpers = record { global = same (codes "babelHelpers") ∙ seen.global; require = same (codes "require") ∙ seen.require }; names = λ n x h. same x ∙ bad_seen n x h }
  all_told F same (by_require m) seen = record { helpers = record { global = same (codes "babelHelpers") ∙ seen.global; require = same (codes "require") ∙ seen.require }; names = λ n x h. same x ∙ bad_seen n x h }

-- OPTIONAL CATCH

-- a declared name is no pattern
changeable_putter : (u : Supply) (w : World) (e : Meaning) → putter_by true w (said_in u changeable) e ≡ (e.reference >>= λ r. return (reference_putter true w r))
changeable_putter no_helpers w e = refl
changeable_putter spread_by_global w e = refl
changeable_putter by_global w e = refl
changeable_putter (by_import m) w e = refl
changeable_putter (by_require m) w e = refl

constant_putter : (u : Supply) (w : World) (e : Meaning) → putter_by true w (said_in u constant) e ≡ (e.reference >>= λ r. return (reference_putter true w r))
constant_putter no_helpers w e = refl
constant_putter spread_by_global w e = refl
constant_putter by_global w e = refl
constant_putter (by_import m) w e = refl
constant_putter (by_require m) w e = refl

pub declared_putter : (u : Supply) (w : World) (kind : Text) (e : Meaning) → putter_by true w (said_in u (binding_of kind)) e ≡ (e.reference >>= λ r. return (reference_putter true w r))
declared_putter u w kind e = at (bytes_eq kind (codes "const"))
  where
    at : (b : Bool) → putter_by true w (said_in u (if b then constant else changeable)) e ≡ (e.reference >>= λ r. return (reference_putter true w r))
    at true = constant_putter u w e
    at false = changeable_putter u w e

-- the name of a scope's one declaration
pub own_binding : (w : World) (x kind : Text) → (inner w (record { name = x; kind = kind } ∷ [])).scope x ≡ binding_of kind
own_binding w x kind = rw (bytes_eq-self x) refl

module _ (x : Text) (quiet : Quiet (apart_from x)) (stack : StackSeen (apart_from x)) (o : Supply) (told : Told (apart_from x) (bad_with x) o) where
  abbrev with_x : Declared
  with_x = record { name = x; kind = codes "let" }

  one_more : (w v : World) → SameWorld (only x) w v → SameWorld (only x) (inner w []) (inner v (with_x ∷ []))
  one_more w v same = record { scope = λ y e. rw e (same.scope y e); this = same.this; counts = same.counts }

  kept_all : (ds : List Declared) → all_good (bad_with x) (names_of_all ds) ≡ true → (w v : World) → Unit {0} → Unit {0}
  kept_all ds h w v k = tt

  pub steady_part : (t : Take) (b : Tree) → avoids (bad_with x) t b ≡ true → (w v : World) → SameWorld (only x) w v → (ls : List Text) (y : Text) → SenseLike (apart_from x) w v t (sense (placed_at o w ls y) b) (sense (placed_at o v ls y) b)
  steady_part t b h w v same ls y = close_like (apart_from x) quiet stack (bad_with x) (below_anywhere (only x)) o told (λ w v. Unit {0}) kept_all (λ t a b. ⊥) (λ t a b e. absurd e) (close_self (bad_with x) (λ t a b. ⊥) b t h) (place_like same tt)

  catch_like : (t : Take) (a b : Tree) → CatchRow x t a b → (w v : World) → SameWorld (only x) w v → Unit {0} → (ls : List Text) (y : Text) → SenseLike (apart_from x) w v t (sense (placed_at o w ls y) a) (sense (placed_at o v ls y) b)
  catch_like t _ _ (catch_row {m = m} {b = b} avoid) w v same k ls y = rw (own_binding v x (codes "let"), declared_putter o (inner v (with_x ∷ [])) (codes "let") (name x)) (record {
    core = nothing_like (apart_from x) w v same t.need;
    more = λ _. same_handles (λ u. hide_scope (only x) x [] (bytes_eq-self x) (hide_set (only x) x u (bytes_eq-self x) (steady_part value_taken b avoid (inner w []) (inner v (with_x ∷ [])) (one_more w v same) [] []).core.evaluation));
  })

-- THE TOP

module _ (x : Text) where
  pub any_self : (s : State) → Agree (apart_from x) s s
  any_self (state c ms qs) = agree (λ y e. refl) (λ y e. tt) (λ y e. cc)

  pub undeclared_hidden : (ds : List Declared) → is_declared ds x ≡ false → (y : Text) → is_declared ds y ≡ true → only x y ≡ false
  undeclared_hidden ds d y e = not_same (bytes_eq y x) refl
    where
      not_same : (b : Bool) → bytes_eq y x ≡ b → b ≡ false
      not_same false h = refl
      not_same true h = let k : y ≡ x = (bytes_eq-Decides y x).0 h in let i : is_declared ds y ≡ is_declared ds x = ap (is_declared ds) k in absurd (cc)

-- where x is no own cell, the frame that hides it alone is quiet
pub one_quiet : (x : Text) → bytes_eq (codes "Math") x ≡ false → is_own_cell x ≡ false → Quiet (apart_from x)
one_quiet x math no_own = record { own_seen = λ y e i. record { hidden = own_apart x y no_own e; frozen = refl; loose = refl }; math = math }

pub one_stack : (x : Text) → is_own_cell x ≡ false → StackSeen (apart_from x)
one_stack x no_own = record { hidden = own_apart x stack_cell no_own refl; frozen = refl; loose = refl }

pub law_catch_proof : LawCatch
law_catch_proof u x l ds body after rows tops uses silents math no_own supply undeclared =
    let told : Told (apart_from x) (bad_with x) u = all_told (only x) (apart_from x) (λ y. refl) u supply in
    rows_run (apart_from x) (one_quiet x math no_own) (one_stack x no_own) (bad_with x) (below_anywhere (only x)) u l ds body after [] told (λ w v. Unit {0}) (λ es vis w v k. tt) (CatchRow x) (catch_like x (one_quiet x math no_own) (one_stack x no_own) u told) rows uses
    (top_world u (only x) (program l ds body) (program l ds after) tops silents) (λ this. tt) (λ n moves. rw tops (any_self x (state (start_cells n (top_in body)) moves []))) (undeclared_hidden x (top_in body) undeclared)
