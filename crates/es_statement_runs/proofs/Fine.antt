-- Computations that stop only as is allowed, and keep the innermost stack.
use Rattle.std.proofs.Common.{◌≡◌, refl, List, [], ◌∷◌}
use Rattle.std.specs.Prelude.{ℕ, Bool, true, false, bytes_eq, if◌then◌else◌}
use Rattle.es_tree.specs.Words.{Text}
use Rattle.es_runs.specs.Machine.{Value, Values, M, ◌>>=◌, return, stop, ask, cell_of, set_cell, with_cell, Cell, Move, Question, State, Stop, Result, onward, do_call, joined, next}
use Rattle.es_runs.specs.Machine.Stop.{throws, faults, waits, uncallable, cut, unknown, breaks, continues, out_of_turns}
use Rattle.es_runs.specs.Machine.Move.{answer, throw}
use Rattle.es_runs.specs.Machine.Value.{bound, own}
use Rattle.es_runs.specs.Machine.OwnValue.{stack}
use Rattle.es_runs.specs.Machine.Cell.{unset, holds}
use Rattle.es_runs.specs.Machine.State.{state}
use Rattle.es_runs.specs.Machine.Result.{gives, stops}
use Rattle.es_runs.specs.Core.{World, Binding, Reference, Meaning, value, values, get_value, put_value, read_name, read_cell, write_name, change_cell, keep_cell, initialise, as_plain, in_order}
use Rattle.es_runs.specs.Core.Binding.{free, changeable, constant, silent}
use Rattle.es_runs.specs.Core.Reference.{named, property, plain}
use Rattle.es_statement_runs.specs.Scopes.{is_own_cell, stack_cell}
use Rattle.es_statement_runs.specs.Meant.{Exits, allowed, no_exits}
use Rattle.es_statement_runs.proofs.OwnCells.{own_apart}

-- what is known of the innermost stack's cell, where there is one
pub data HoldsStack : Cell → Type 0 where
  holds_stack : {n : ℕ} → HoldsStack (holds (own (stack n)))

abbrev pub Held : Bool → State → Type 0
Held true (state c ms qs) = HoldsStack (c stack_cell)
Held false s = Unit {0}

pub data Fine (u : Bool) (E : Exits) {A : Type 0} (Q : A → Type 0) : Result A → Type 0 where
  fine_gives : {a : A} {s : State} → Q a → Held u s → Fine u E Q (gives a s)
  fine_stops : {w : Stop} {s : State} → allowed E w ≡ true → Held u s → Fine u E Q (stops w s)

abbrev pub Means : Bool → Exits → {A : Type 0} → (A → Type 0) → M A → Type 0
Means u E Q m = (s : State) → Held u s → Fine u E Q (m s)

abbrev pub Any : {A : Type 0} → A → Type 0
Any a = Unit {0}

-- a name that is no cell of the machine's own; a reference that may be read, that may be put, and a name
abbrev pub IsSeen : Reference → Type 0
IsSeen (named x) = is_own_cell x ≡ false
IsSeen _ = Unit {0}

abbrev pub IsPlace : Reference → Type 0
IsPlace (named x) = is_own_cell x ≡ false
IsPlace (property o k) = Unit {0}
IsPlace (plain v) = ⊥

abbrev pub IsNamed : Reference → Type 0
IsNamed (named x) = is_own_cell x ≡ false
IsNamed _ = ⊥

pub place_seen : (r : Reference) → IsPlace r → IsSeen r
place_seen (named x) h = h
place_seen (property o k) h = tt
place_seen (plain v) h = absurd h

pub named_place : (r : Reference) → IsNamed r → IsPlace r
named_place (named x) h = h
named_place (property o k) h = absurd h
named_place (plain v) h = absurd h

-- the moves and questions don't matter
pub still : (b : Bool) (c : Text → Cell) (ms ns : List Move) (qs rs : List Question) → Held b (state c ms qs) → Held b (state c ns rs)
still true c ms ns qs rs h = h
still false c ms ns qs rs h = tt

held_with : (b : Bool) (x : Text) (v : Value) (c : Text → Cell) (ms : List Move) (qs : List Question) → bytes_eq stack_cell x ≡ false → Held b (state c ms qs) → Held b (state (with_cell x v c) ms qs)
held_with true x v c ms qs e h = rw e h
held_with false x v c ms qs e h = tt

-- WEAKER

module _ {A : Type 0} {Q R : A → Type 0} {u : Bool} {D E : Exits} where
  weaker_result : ((a : A) → Q a → R a) → ((w : Stop) → allowed D w ≡ true → allowed E w ≡ true) → {r : Result A} → Fine u D Q r → Fine u E R r
  weaker_result f g (fine_gives {a = a} q h) = fine_gives (f a q) h
  weaker_result f g (fine_stops {w = w} e h) = fine_stops (g w e) h

  pub weaker : ((a : A) → Q a → R a) → ((w : Stop) → allowed D w ≡ true → allowed E w ≡ true) → {m : M A} → Means u D Q m → Means u E R m
  weaker f g h s k = weaker_result f g (h s k)

pub from_none : (E : Exits) (w : Stop) → allowed (no_exits false) w ≡ true → allowed E w ≡ true
from_none E (throws v) h = refl
from_none E (faults v) h = refl
from_none E waits h = refl
from_none E uncallable h = refl
from_none E out_of_turns h = refl
from_none E cut h = absurd (cc h)
from_none E unknown h = absurd (cc h)
from_none E (breaks []) h = absurd (cc h)
from_none E (breaks (l ∷ ls)) h = absurd (cc h)
from_none E (continues []) h = absurd (cc h)
from_none E (continues (l ∷ ls)) h = absurd (cc h)

pub from_cuts : (E : Exits) (w : Stop) → allowed (no_exits E.cuts) w ≡ true → allowed E w ≡ true
from_cuts E (throws v) h = refl
from_cuts E (faults v) h = refl
from_cuts E waits h = refl
from_cuts E uncallable h = refl
from_cuts E out_of_turns h = refl
from_cuts E cut h = h
from_cuts E unknown h = absurd (cc h)
from_cuts E (breaks []) h = absurd (cc h)
from_cuts E (breaks (l ∷ ls)) h = absurd (cc h)
from_cuts E (continues []) h = absurd (cc h)
from_cuts E (continues (l ∷ ls)) h = absurd (cc h)

-- STEPS

module _ {u : Bool} {E : Exits} where
  pub return_fine : {A : Type 0} {Q : A → Type 0} {a : A} → Q a → Means u E Q (return a)
  return_fine q s k = fine_gives q k

  pub stop_fine : {A : Type 0} {Q : A → Type 0} (w : Stop) → allowed E w ≡ true → Means u E Q (stop w)
  stop_fine w e s k = fine_stops e k

  pub onward_fine : {A B : Type 0} {Q : A → Type 0} {R : B → Type 0} {f : A → M B} {r : Result A} → Fine u E Q r → ((a : A) → Q a → Means u E R (f a)) → Fine u E R (onward r f)
  onward_fine (fine_gives {a = a} {s = s} q h) g = g a q s h
  onward_fine (fine_stops e h) g = fine_stops e h

  pub then_fine : {A B : Type 0} {Q : A → Type 0} {R : B → Type 0} {m : M A} {f : A → M B} → Means u E Q m → ((a : A) → Q a → Means u E R (f a)) → Means u E R (m >>= f)
  then_fine h g s k = onward_fine (h s k) g

  pub choice_fine : {A : Type 0} {Q : A → Type 0} (b : Bool) {m k : M A} → Means u E Q m → Means u E Q k → Means u E Q (if b then m else k)
  choice_fine true h g = h
  choice_fine false h g = g

  next_fine : (c : Text → Cell) (ms : List Move) (qs rs : List Question) → Held u (state c ms rs) → Fine u E Any (next c ms qs)
  next_fine c [] qs rs k = fine_stops refl (still u c _ _ _ _ k)
  next_fine c (answer v ∷ ms) qs rs k = fine_gives tt (still u c _ _ _ _ k)
  next_fine c (throw v ∷ ms) qs rs k = fine_stops refl (still u c _ _ _ _ k)

  pub ask_fine : (q : Question) → Means u E Any (ask q)
  ask_fine q (state c ms qs) k = next_fine c ms (q ∷ qs) qs k

  pub cell_fine : (x : Text) → Means u E Any (cell_of x)
  cell_fine x (state c ms qs) k = fine_gives tt k

  pub apart_fine : (x : Text) (v : Value) → bytes_eq stack_cell x ≡ false → Means u E Any (set_cell x v)
  apart_fine x v e (state c ms qs) k = fine_gives tt (held_with u x v c ms qs e k)

  pub set_fine : (x : Text) (v : Value) → is_own_cell x ≡ false → Means u E Any (set_cell x v)
  set_fine x v h = apart_fine x v (own_apart x stack_cell h refl)

  -- NAMES

  read_cell_fine : (x : Text) (d : Cell) → Means u E Any (read_cell x d)
  read_cell_fine x unset = stop_fine _ refl
  read_cell_fine x (holds v) = return_fine tt

  pub read_fine : (x : Text) (b : Binding) → Means u E Any (read_name x b)
  read_fine x free = ask_fine _
  read_fine x changeable = then_fine (cell_fine x) (λ d _. read_cell_fine x d)
  read_fine x constant = then_fine (cell_fine x) (λ d _. read_cell_fine x d)
  read_fine x (silent s) = then_fine (cell_fine x) (λ d _. read_cell_fine x d)

  pub get_fine : (w : World) (r : Reference) → Means u E Any (get_value w r)
  get_fine w (named x) = read_fine x (w.scope x)
  get_fine w (property o k) = ask_fine _
  get_fine w (plain v) = return_fine tt

  change_fine : (x : Text) (v : Value) → is_own_cell x ≡ false → (d : Cell) → Means u E Any (change_cell x v d)
  change_fine x v h unset = stop_fine _ refl
  change_fine x v h (holds o) = set_fine x v h

  keep_fine : (x : Text) (d : Cell) → Means u E Any (keep_cell x d)
  keep_fine x unset = stop_fine _ refl
  keep_fine x (holds v) = stop_fine _ refl

  write_fine : (x : Text) (v : Value) → is_own_cell x ≡ false → (b : Binding) → Means u E Any (write_name x v b)
  write_fine x v h free = then_fine (ask_fine _) (λ _ _. return_fine tt)
  write_fine x v h changeable = then_fine (cell_fine x) (λ d _. change_fine x v h d)
  write_fine x v h constant = then_fine (cell_fine x) (λ d _. keep_fine x d)
  write_fine x v h (silent s) = then_fine (cell_fine x) (λ d _. keep_fine x d)

  pub put_fine : (w : World) (v : Value) (r : Reference) → IsPlace r → Means u E Any (put_value w r v)
  put_fine w v (named x) h = write_fine x v h (w.scope x)
  put_fine w v (property o k) h = then_fine (ask_fine _) (λ _ _. return_fine tt)
  put_fine w v (plain t) h = absurd h

  pub initialise_fine : (v : Value) (r : Reference) → IsNamed r → Means u E Any (initialise v r)
  initialise_fine v (named x) h = set_fine x v h
  initialise_fine v (property o k) h = absurd h
  initialise_fine v (plain t) h = absurd h

  -- VALUES

  pub value_fine : (w : World) (e : Meaning) → Means u E IsSeen e.reference → Means u E Any (value w e)
  value_fine w e h = then_fine h (λ r _. get_fine w r)

  pub plain_fine : {m : M Value} → Means u E Any m → Means u E IsSeen (m >>= as_plain)
  plain_fine h = then_fine h (λ v _. return_fine tt)

  pub call_fine : (f r : Value) (vs : Values) → Means u E Any (do_call f r vs)
  call_fine (bound f r first) receiver vs = call_fine f r (joined first vs)
  call_fine _ receiver vs = ask_fine _

pub data AllFine (u : Bool) (E : Exits) : List Meaning → Type 0 where
  none_fine : AllFine u E []
  one_fine : {e : Meaning} {es : List Meaning} → Means u E IsSeen e.reference → AllFine u E es → AllFine u E (e ∷ es)

module _ {u : Bool} {E : Exits} (w : World) where
  pub values_fine : {es : List Meaning} → AllFine u E es → Means u E Any (values w es)
  values_fine none_fine = return_fine tt
  values_fine (one_fine {e = e} h g) = then_fine (value_fine w e h) (λ v _. then_fine (values_fine g) (λ vs _. return_fine tt))

  pub order_fine : {es : List Meaning} → AllFine u E es → Means u E Any (in_order w es)
  order_fine none_fine = return_fine tt
  order_fine (one_fine {e = e} h g) = then_fine (value_fine w e h) (λ v _. order_fine g)
