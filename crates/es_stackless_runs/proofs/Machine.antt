-- Where no cell but that of the innermost stack holds a stack, the steps of the machine give none.
use Rattle.std.proofs.Common.{◌≡◌, refl, List, [], ◌∷◌}
use Rattle.std.proofs.lemmas.Bool.{and_parts}
use Rattle.std.specs.Prelude.{Bool, true, false, bytes_eq, if◌then◌else◌, codes, ◌&&◌}
use Rattle.es_tree.specs.Words.{Text}
use Rattle.es_runs.specs.Machine.{Value, Values, M, ◌>>=◌, onward, return, stop, next, State, Stop, Result, Cell, Move, Question, ask, cell_of, set_cell, do_call, joined}
use Rattle.es_runs.specs.Machine.Value.{undefined, null, boolean, number, bigint, text, host, bound, unset_error, constant_error, own}
use Rattle.es_runs.specs.Machine.Values.{none, ◌and◌}
use Rattle.es_runs.specs.Machine.Question.{read, typeof_read, write, call, operator}
use Rattle.es_runs.specs.Machine.Move.{answer, throw}
use Rattle.es_runs.specs.Machine.State.{state}
use Rattle.es_runs.specs.Machine.Stop.{cut, uncallable, throws, waits, unknown, breaks, continues, out_of_turns, faults}
use Rattle.es_runs.specs.Machine.Cell.{unset, holds}
use Rattle.es_runs.specs.Machine.Result.{gives, stops}
use Rattle.es_tree.specs.Scopes.{Declared}
use Rattle.es_runs.specs.Core.{Binding, Reference, read_name, read_cell, write_name, change_cell, keep_cell, apply_call, apply_bind, closed_result, typeof_name, initialise, settle}
use Rattle.es_runs.specs.Core.Binding.{free, changeable, constant, silent}
use Rattle.es_runs.specs.Core.Reference.{named, property, plain}
use Rattle.es_runs.specs.Runs.{first_cell, cells_of}
use Rattle.es_statement_runs.specs.Scopes.{stack_cell}
use Rattle.es_stackless_runs.specs.Laws.{is_stackless, are_stackless, moves_stackless}

-- no stack in a value
abbrev pub Lacks : Value → Type 0
Lacks v = is_stackless v ≡ true

abbrev pub AllLack : Values → Type 0
AllLack vs = are_stackless vs ≡ true

abbrev pub Anything : {A : Type 0} → A → Type 0
Anything a = Unit {0}

abbrev pub CellLacks : Cell → Type 0
CellLacks unset = Unit {0}
CellLacks (holds v) = Lacks v

-- no name is that of the cell of the innermost stack
abbrev pub IsName : Text → Type 0
IsName x = bytes_eq x stack_cell ≡ false

-- a property isn't known to have a value before it is asked for, and its key is only asked for
abbrev pub ReferenceLacks : Reference → Type 0
ReferenceLacks (named x) = IsName x
ReferenceLacks (property o k) = Lacks o
ReferenceLacks (plain v) = Lacks v

-- what is thrown may be caught
abbrev pub StopLacks : Stop → Type 0
StopLacks (throws v) = Lacks v
StopLacks _ = Unit {0}

-- no other cell holds a stack, and no move that is left has one
abbrev pub StateLacks : State → Type 0
StateLacks (state c ms qs) = ((x : Text) → IsName x → CellLacks (c x)) × (moves_stackless ms ≡ true)

-- two results with the same stop or with R of what they give, and in the same state, with no stack after it
pub data Matched {A : Type 0} (R : A → A → Type 0) : Result A → Result A → Type 0 where
  both_give : {a b : A} {s : State} → R a b → StateLacks s → Matched R (gives a s) (gives b s)
  both_stop : {m : Stop} {s : State} → StopLacks m → StateLacks s → Matched R (stops m s) (stops m s)

-- the same twice, with P
pub data Same {A : Type 0} (P : A → Type 0) : A → A → Type 0 where
  same : {a : A} → P a → Same P a a

abbrev pub MatchesBy : {A : Type 0} → (A → A → Type 0) → M A → M A → Type 0
MatchesBy R m k = (s : State) → StateLacks s → Matched R (m s) (k s)

abbrev pub Matches : {A : Type 0} → (A → Type 0) → M A → M A → Type 0
Matches P m k = MatchesBy (Same P) m k

pub same_result : {A : Type 0} {P : A → Type 0} {r q : Result A} → Matched (Same P) r q → r ≡ q
same_result (both_give (same h) n) = refl
same_result (both_stop k n) = refl

pub both_lack : {a b : Bool} → a ≡ true → b ≡ true → (a && b) ≡ true
both_lack h g = rw (h, g) refl

-- COMBINATIONS

onward_matched : {A B : Type 0} {R : A → A → Type 0} {Q : B → B → Type 0} {r q : Result A} {k l : A → M B} → Matched R r q → ((a b : A) → R a b → MatchesBy Q (k a) (l b)) → Matched Q (onward r k) (onward q l)
onward_matched (both_give h n) kl = kl _ _ h _ n
onward_matched (both_stop k n) kl = both_stop k n

pub bind_by : {A B : Type 0} {R : A → A → Type 0} {Q : B → B → Type 0} {m n : M A} {k l : A → M B} → MatchesBy R m n → ((a b : A) → R a b → MatchesBy Q (k a) (l b)) → MatchesBy Q (m >>= k) (n >>= l)
bind_by h kl s n = onward_matched (h s n) kl

on_same : {A B : Type 0} {P : A → Type 0} {Q : B → B → Type 0} {k l : A → M B} → ((a : A) → P a → MatchesBy Q (k a) (l a)) → (a b : A) → Same P a b → MatchesBy Q (k a) (l b)
on_same kl _ _ (same h) = kl _ h

pub bind : {A B : Type 0} {P : A → Type 0} {Q : B → B → Type 0} {m n : M A} {k l : A → M B} → Matches P m n → ((a : A) → P a → MatchesBy Q (k a) (l a)) → MatchesBy Q (m >>= k) (n >>= l)
bind h kl = bind_by h (on_same kl)

loosened : {A : Type 0} {P : A → Type 0} {r q : Result A} → Matched (Same P) r q → Matched (Same Anything) r q
loosened (both_give (same h) n) = both_give (same tt) n
loosened (both_stop k n) = both_stop k n

pub loosen : {A : Type 0} {P : A → Type 0} {m k : M A} → Matches P m k → Matches Anything m k
loosen h s n = loosened (h s n)

pub returns : {A : Type 0} {P : A → Type 0} (a : A) → P a → Matches P (return a) (return a)
returns a h s n = both_give (same h) n

pub stopped : {A : Type 0} {R : A → A → Type 0} (m : Stop) → StopLacks m → MatchesBy R (stop m) (stop m)
stopped m k s n = both_stop k n

pub choice : (b : Bool) {A : Type 0} {R : A → A → Type 0} {m n k l : M A} → MatchesBy R m n → MatchesBy R k l → MatchesBy R (if b then m else k) (if b then n else l)
choice true h g = h
choice false h g = g

-- STEPS

next_matched : (c : Text → Cell) (ms : List Move) (qs : List Question) → ((x : Text) → IsName x → CellLacks (c x)) → moves_stackless ms ≡ true → Matched (Same Lacks) (next c ms qs) (next c ms qs)
next_matched c [] qs h g = both_stop tt (h, refl)
next_matched c (answer v ∷ ms) qs h g = let e = and_parts (is_stackless v) (moves_stackless ms) g in both_give (same e.0) (h, e.1)
next_matched c (throw v ∷ ms) qs h g = let e = and_parts (is_stackless v) (moves_stackless ms) g in both_stop e.0 (h, e.1)

-- an answer has no stack
pub asks : (q : Question) → Matches Lacks (ask q) (ask q)
asks q (state c ms qs) n = next_matched c ms (q ∷ qs) n.0 n.1

pub reads_cell : (x : Text) → IsName x → Matches CellLacks (cell_of x) (cell_of x)
reads_cell x e (state c ms qs) n = both_give (same (n.0 x e)) n

pub reads_any : (x : Text) → Matches Anything (cell_of x) (cell_of x)
reads_any x (state c ms qs) n = both_give (same tt) n

pub one_of : (b : Bool) (c d : Cell) → CellLacks c → CellLacks d → CellLacks (if b then c else d)
one_of true c d h n = h
one_of false c d h n = n

pub sets : (x : Text) (v : Value) → Lacks v → Matches Lacks (set_cell x v) (set_cell x v)
sets x v h (state c ms qs) n = both_give (same h) ((λ y e. one_of (bytes_eq y x) (holds v) (c y) h (n.0 y e)), n.1)

-- the innermost stack may be set
pub sets_stack : (v : Value) → Matches Anything (set_cell stack_cell v) (set_cell stack_cell v)
sets_stack v (state c ms qs) n = both_give (same tt) ((λ y e. rw e (n.0 y e)), n.1)

reads : (x : Text) (c : Cell) → CellLacks c → Matches Lacks (read_cell x c) (read_cell x c)
reads x unset h = stopped (faults (unset_error x)) tt
reads x (holds v) h = returns v h

pub reads_name : (x : Text) (b : Binding) → IsName x → Matches Lacks (read_name x b) (read_name x b)
reads_name x free e = asks (read x)
reads_name x changeable e = bind (reads_cell x e) (reads x)
reads_name x constant e = bind (reads_cell x e) (reads x)
reads_name x (silent z) e = bind (reads_cell x e) (reads x)

changes : (x : Text) (v : Value) → Lacks v → (c : Cell) → CellLacks c → Matches Lacks (change_cell x v c) (change_cell x v c)
changes x v h unset n = stopped (faults (unset_error x)) tt
changes x v h (holds u) n = sets x v h

keeps : (x : Text) (c : Cell) → CellLacks c → Matches Lacks (keep_cell x c) (keep_cell x c)
keeps x unset n = stopped (faults (unset_error x)) tt
keeps x (holds u) n = stopped (faults (constant_error x)) tt

pub writes : (x : Text) → IsName x → (v : Value) → Lacks v → (b : Binding) → Matches Lacks (write_name x v b) (write_name x v b)
writes x e v h free = bind (asks (write x v)) (λ u n. returns v h)
writes x e v h changeable = bind (reads_cell x e) (changes x v h)
writes x e v h constant = bind (reads_cell x e) (keeps x)
writes x e v h (silent z) = bind (reads_cell x e) (keeps x)

-- a call asks, whatever is called
pub calls : (f r : Value) (us : Values) → Matches Lacks (do_call f r us) (do_call f r us)
calls undefined r us = asks (call undefined r us)
calls null r us = asks (call null r us)
calls (boolean b) r us = asks (call (boolean b) r us)
calls (number b) r us = asks (call (number b) r us)
calls (bigint b) r us = asks (call (bigint b) r us)
calls (text b) r us = asks (call (text b) r us)
calls (host n a b c) r us = asks (call (host n a b c) r us)
calls (bound f q vs) r us = calls f q (joined vs us)
calls (unset_error b) r us = asks (call (unset_error b) r us)
calls (constant_error b) r us = asks (call (constant_error b) r us)
calls (own b) r us = asks (call (own b) r us)

pub applies_call : (f : Value) (us : Values) → Matches Lacks (apply_call f us) (apply_call f us)
applies_call f none = calls f undefined none
applies_call f (r and us) = calls f r us

pub applies_bind : (f : Value) (us : Values) → Lacks f → AllLack us → Matches Lacks (apply_bind f us) (apply_bind f us)
applies_bind f none h g = returns (bound f undefined none) (both_lack (both_lack h refl) refl)
applies_bind f (r and us) h g = let e = and_parts (is_stackless r) (are_stackless us) g in returns (bound f r us) (both_lack (both_lack h e.0) e.1)

pub types_name : (x : Text) (b : Binding) → IsName x → Matches Lacks (typeof_name x b) (typeof_name x b)
types_name x free e = asks (typeof_read x)
types_name x changeable e = bind (reads_name x changeable e) (λ u h. asks (operator (codes "typeof") (u and none)))
types_name x constant e = bind (reads_name x constant e) (λ u h. asks (operator (codes "typeof") (u and none)))
types_name x (silent z) e = bind (reads_name x (silent z) e) (λ u h. asks (operator (codes "typeof") (u and none)))

pub closed_matched : {r q : Result Reference} → Matched (Same ReferenceLacks) r q → Matched (Same ReferenceLacks) (closed_result r) (closed_result q)
closed_matched (both_give h n) = both_give h n
closed_matched (both_stop {m = cut} k n) = both_give (same refl) n
closed_matched (both_stop {m = throws u} k n) = both_stop k n
closed_matched (both_stop {m = waits} k n) = both_stop k n
closed_matched (both_stop {m = uncallable} k n) = both_stop k n
closed_matched (both_stop {m = unknown} k n) = both_stop k n
closed_matched (both_stop {m = breaks l} k n) = both_stop k n
closed_matched (both_stop {m = continues l} k n) = both_stop k n
closed_matched (both_stop {m = out_of_turns} k n) = both_stop k n
closed_matched (both_stop {m = faults z} k n) = both_stop k n

pub initialises : (u : Value) → Lacks u → (r : Reference) → Matches Lacks (initialise u r) (initialise u r)
initialises u h (named x) = sets x u h
initialises u h (property o k) = stopped unknown tt
initialises u h (plain p) = stopped unknown tt

pub settles : (lets : Bool) (r : Reference) → Matches Lacks (settle lets r) (settle lets r)
settles true (named x) = sets x undefined refl
settles true (property o k) = returns undefined refl
settles true (plain p) = returns undefined refl
settles false r = returns undefined refl

first_lacks : (b : Bool) → CellLacks (if b then holds undefined else unset)
first_lacks true = refl
first_lacks false = tt

-- before a run each cell is unset or undefined
pub first_cells : (ds : List Declared) (x : Text) → CellLacks (cells_of ds x)
first_cells [] x = tt
first_cells (d ∷ ds) x = one_of (bytes_eq x d.name) (first_cell d.kind) (cells_of ds x) (first_lacks (bytes_eq d.kind (codes "var"))) (first_cells ds x)
