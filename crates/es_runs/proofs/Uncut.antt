-- What is never cut short.
use Rattle.std.proofs.Common.{List, [], ◌∷◌}
use Rattle.es_tree.specs.Words.{Text}
use Rattle.es_runs.specs.Machine.{M, ◌>>=◌, onward, State, Result, Cell, Move, Question, next, ask}
use Rattle.es_runs.specs.Machine.State.{state}
use Rattle.es_runs.specs.Machine.Move.{answer, throw}
use Rattle.es_runs.specs.Machine.Stop.{cut, uncallable, throws, waits, unknown, breaks, continues, out_of_turns, faults}
use Rattle.es_runs.specs.Machine.Cell.{unset, holds}
use Rattle.es_runs.specs.Machine.Result.{gives, stops}
use Rattle.es_runs.specs.Core.{World, Binding, Reference, get_value, read_name, read_cell}
use Rattle.es_runs.specs.Core.Binding.{free, changeable, constant, silent}
use Rattle.es_runs.specs.Core.Reference.{named, property, plain}

-- a result that isn't cut short
abbrev pub Goes : {A : Type 0} → Result A → Type 0
Goes (stops cut s) = ⊥
Goes _ = Unit {0}

abbrev pub NeverCut : {A : Type 0} → M A → Type 0
NeverCut m = (s : State) → Goes (m s)

pub onward_goes : {A B : Type 0} (r : Result A) (k : A → M B) → Goes r → ((a : A) → NeverCut (k a)) → Goes (onward r k)
onward_goes (gives a s) k h g = g a s
onward_goes (stops (throws u) s) k h g = tt
onward_goes (stops waits s) k h g = tt
onward_goes (stops uncallable s) k h g = tt
onward_goes (stops cut s) k h g = h
onward_goes (stops unknown s) k h g = tt
onward_goes (stops (breaks l) s) k h g = tt
onward_goes (stops (continues l) s) k h g = tt
onward_goes (stops out_of_turns s) k h g = tt
onward_goes (stops (faults z) s) k h g = tt

pub bind_uncut : {A B : Type 0} (m : M A) (k : A → M B) → NeverCut m → ((a : A) → NeverCut (k a)) → NeverCut (m >>= k)
bind_uncut m k h g s = onward_goes (m s) k (h s) g

next_goes : (c : Text → Cell) (ms : List Move) (qs : List Question) → Goes (next c ms qs)
next_goes c [] qs = tt
next_goes c (answer u ∷ ms) qs = tt
next_goes c (throw u ∷ ms) qs = tt

pub ask_uncut : (q : Question) → NeverCut (ask q)
ask_uncut q (state c ms qs) = next_goes c ms (q ∷ qs)

cell_goes : (x : Text) (o : Cell) (s : State) → Goes (read_cell x o s)
cell_goes x unset s = tt
cell_goes x (holds u) s = tt

name_uncut : (x : Text) (b : Binding) → NeverCut (read_name x b)
name_uncut x free s = ask_uncut (Question.read x) s
name_uncut x changeable (state c ms qs) = cell_goes x (c x) (state c ms qs)
name_uncut x constant (state c ms qs) = cell_goes x (c x) (state c ms qs)
name_uncut x (silent z) (state c ms qs) = cell_goes x (c x) (state c ms qs)

pub get_uncut : (w : World) (r : Reference) → NeverCut (get_value w r)
get_uncut w (named x) s = name_uncut x (w.scope x) s
get_uncut w (property o k) s = ask_uncut (Question.get o k) s
get_uncut w (plain u) s = tt
