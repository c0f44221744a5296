-- Runs of programs without functions, arrows and classes, and when two run alike.
use Rattle.std.specs.Prelude.{ℕ, Bool, true, false, ◌&&◌, List, [], ◌∷◌, ◌≡◌, bytes_eq, if◌then◌else◌, Option, Some, None}
use Rattle.es_tree.specs.Words.{Text}
use Rattle.es_tree.specs.Scopes.{Declared}
use Rattle.es_tree.specs.Tree.{Tree}
use Rattle.es_runs.specs.Machine.{Value, OwnValue, Values, Cell, Move, Result, is_set, stop}
use Rattle.es_runs.specs.Machine.Value.{bound, own}
use Rattle.es_runs.specs.Machine.OwnValue.{pattern_error, suppressed, count}
use Rattle.es_runs.specs.Machine.Values.{none, ◌and◌}
use Rattle.es_runs.specs.Machine.Move.{answer, throw}
use Rattle.es_runs.specs.Machine.Cell.{holds}
use Rattle.es_runs.specs.Machine.State.{state}
use Rattle.es_runs.specs.Machine.Stop.{throws, faults, waits, uncallable, out_of_turns, unknown}
use Rattle.es_runs.specs.Machine.Result.{gives, stops}
use Rattle.es_runs.specs.Core.{World, Binding, Silent, value}
use Rattle.es_runs.specs.Core.Binding.{silent}
use Rattle.es_runs.specs.Runs.{cells_of, scope_of, IsAssumed, asked, cells, state_of, is_declared}
use Rattle.es_statement_runs.specs.Scopes.{turns_cell}
use Rattle.es_statement_runs.specs.Names.{declared_at_top}
use Rattle.es_statement_runs.specs.Helpers.{Supply, entry, silent_names}
use Rattle.es_statement_runs.specs.Senses.{Place}
use Rattle.es_statement_runs.specs.Kinds.{sense}

-- THE RUN

abbrev pub start_cells : ℕ → List Declared → Text → Cell
start_cells n ds x = if bytes_eq x turns_cell then holds (own (count n)) else cells_of ds x

-- how the names of a program's top are bound
abbrev pub silent_or : Option Silent → Binding → Binding
silent_or (Some s) b = silent s
silent_or None b = b

abbrev pub program_scope : Supply → Tree → Text → Binding
program_scope u t x = silent_or (entry (silent_names u t) x) (scope_of (declared_at_top t) x)

-- where `document.all` counts as null for `==`, or not
abbrev pub world_where : Bool → Supply → Value → Tree → World
world_where counts u this t = record { scope = program_scope u t; this = this; counts_all = counts; other = λ e. stop unknown; spreads = false }

-- it counts, as ECMA-262 has it
abbrev pub program_world : Supply → Value → Tree → World
program_world u this t = world_where true u this t

abbrev pub place_where : Bool → Supply → Value → Tree → Place
place_where counts u this t = record { world = world_where counts u this t; labels = []; word = []; supply = u }

abbrev pub place_of : Supply → Value → Tree → Place
place_of u this t = place_where true u this t

abbrev pub run_in : Place → ℕ → List Declared → Tree → List Move → Result Value
run_in p n ds t moves = value p.world (sense p t).core (state (start_cells n ds) moves [])

-- the run from n turns, where `document.all` counts, or not
abbrev pub run_where : Bool → Supply → ℕ → Tree → Value → List Move → Result Value
run_where counts u n t this moves = run_in (place_where counts u this t) n (declared_at_top t) t moves

abbrev pub run : Supply → ℕ → Tree → Value → List Move → Result Value
run u n t this moves = run_where true u n t this moves

pub data Outcome : Type 0 where
  finished : Outcome
  threw : Value → Outcome
  waiting outside no_turns meaningless : Outcome

abbrev pub outcome : Result Value → Outcome
outcome (gives v s) = finished
outcome (stops (throws v) s) = threw v
outcome (stops (faults v) s) = outside
outcome (stops waits s) = waiting
outcome (stops uncallable s) = outside
outcome (stops out_of_turns s) = no_turns
outcome (stops _ s) = meaningless

-- SAME RUNS

-- The same outcome, the same questions, and the same values of the names that the top of the source declares and that its
-- run has set.
pub record SameRun (declared : Text → Bool) (r q : Result Value) : Type 0 where
  pub outcomes : outcome q ≡ outcome r
  pub questions : asked (state_of q) ≡ asked (state_of r)
  pub final_cells : (x : Text) → declared x ≡ true → is_set (cells (state_of r) x) ≡ true → cells (state_of q) x ≡ cells (state_of r) x

-- the values that a program and its host can give: none of those that the machine keeps for itself
abbrev mutual
  pub is_proper : Value → Bool
  is_proper (bound f r vs) = is_proper f && is_proper r && are_proper vs
  is_proper (own v) = is_proper_own v
  is_proper _ = true

  pub is_proper_own : OwnValue → Bool
  is_proper_own pattern_error = true
  is_proper_own (suppressed v u) = is_proper v && is_proper u
  is_proper_own _ = false

  pub are_proper : Values → Bool
  are_proper none = true
  are_proper (v and vs) = is_proper v && are_proper vs

abbrev pub is_proper_move : Move → Bool
is_proper_move (answer v) = is_proper v
is_proper_move (throw v) = is_proper v

abbrev pub are_proper_moves : List Move → Bool
are_proper_moves [] = true
are_proper_moves (m ∷ ms) = is_proper_move m && are_proper_moves ms

-- Source and output run alike, from any number of turns, for each value of `this` and list of moves, unless the source's run
-- is outside.
abbrev pub RunAlike : Supply → Bool → Tree → Tree → Type 0
RunAlike u no_all p q =
    (n : ℕ) (this : Value) (moves : List Move) → IsAssumed no_all this moves → is_proper this ≡ true → are_proper_moves moves ≡ true →
    (outcome (run u n p this moves) ≡ outside → ⊥) → SameRun (is_declared (declared_at_top p)) (run u n p this moves) (run u n q this moves)
