-- A name that holds a value: the first program has no such name, and in the second it holds the value for as long as a scope lasts.
use Rattle.std.proofs.Common.{◌≡◌, refl, List, [], ◌∷◌, ◌∙◌}
use Rattle.std.specs.Prelude.{Bool, true, false, not, ◌&&◌, ◌||◌, Option, Some, None, bytes_eq, if◌then◌else◌}
use Rattle.es_tree.specs.Words.{Text}
use Rattle.es_tree.specs.Scopes.{Declared}
use Rattle.es_runs.specs.Machine.{Cell, M, Result, State, Value, set_cell, with_cell, ◌>>=◌}
use Rattle.es_runs.specs.Machine.Cell.{holds}
use Rattle.es_runs.specs.Alike.{Agree, Alike, Frame, Level, Same, bad_names}
use Rattle.es_runs.specs.Alike.Agree.{agree}
use Rattle.es_runs.specs.Alike.Same.{at_fault, both_give, both_stop, outside}
use Rattle.es_runs.specs.Runs.{none_hidden, only}
use Rattle.es_runs.proofs.Temporary.{bytes_eq-flip}
use Rattle.es_statement_runs.specs.Kinds.{kind_in}
use Rattle.es_statement_runs.specs.Laws.{apart_from}
use Rattle.es_statement_runs.specs.Names.{names_of_all}
use Rattle.es_statement_runs.specs.Places.{all_good}
use Rattle.es_statement_runs.specs.Scopes.{leave, left, put_back, scoped, shadowed}

-- no name is so where it is evaluated or written; a label or a key may be called so
abbrev pub bad_alone : Text → Level → Text → Bool
bad_alone x = bad_names (only x) none_hidden

-- x holds u in the second program
abbrev pub holding : Text → Value → Frame
holding x u = record { hidden = only x; fits = λ c y d. d ≡ holds u; frozen = λ y. false; keeps = λ y d. Unit {0}; faults_outside = false; loose = λ y. false; steady = λ c e h y k d g. g }

module _ (x : Text) (u : Value) where
  away : (y : Text) → only x y ≡ false → bytes_eq x y ≡ false
  away y e = bytes_eq-flip x y ∙ e

  pub hide_holding : {A B : Type 0} {R : A → B → Type 0} {m : M A} {k : M B} → Alike (holding x u) R m k → Alike (apart_from x) R m (scoped (x ∷ []) (set_cell x u >>= λ _. k))
  hide_holding {A} {B} {R} h _ _ (agree {c = c} {d = d} {ms = ms} {qs = qs} f g i) = back (h _ _ (agree (λ y j. inside y j) (λ y j. (rw j refl)) (λ y j. tt)))
    where
      inside : (y : Text) → only x y ≡ false → with_cell x u (shadowed (x ∷ []) d) y ≡ c y
      inside y j = rw (j, away y j) (f y j)

      out : (a b : Text → Cell) (y : Text) → only x y ≡ false → b y ≡ a y → put_back (x ∷ []) d b y ≡ a y
      out a b y j k = rw (away y j, k)

      leaves : {s t : State} → Agree (holding x u) s t → Agree (apart_from x) s (leave (x ∷ []) d t)
      leaves (agree {c = a} {d = b} p q r) = agree (λ y j. out a b y j (p y j)) (λ y j. tt) (λ y j. tt)

      back : {r : Result A} {q : Result B} → Same (holding x u) R r q → Same (apart_from x) R r (left (x ∷ []) d q)
      back (both_give k a) = both_give k (leaves a)
      back (both_stop a) = both_stop (leaves a)
      back outside = outside
      back (at_fault k) = absurd (cc k)

unseen_step : (a b : Bool) (kind : Text) (rest : Option Text) → (not (a || false) && b) ≡ true → (b ≡ true → rest ≡ None) → (if a then Some kind else rest) ≡ None
unseen_step true b kind rest h g = absurd (cc h)
unseen_step false b kind rest h g = g h

-- no scope of other names declares it
pub unseen : (x : Text) (ds : List Declared) → all_good (bad_alone x) (names_of_all ds) ≡ true → kind_in ds x ≡ None
unseen x [] h = refl
unseen x (d ∷ ds) h = rw (bytes_eq-flip x d.name) (unseen_step (bytes_eq d.name x) (all_good (bad_alone x) (names_of_all ds)) d.kind (kind_in ds x) h (unseen x ds))
