-- What statements do (ECMA-262, 14): loops by turns, labels, `try`, `switch`, and the closing of iterators. A statement is a
-- computation like any other: it gives undefined where it ends normally, and stops where it breaks, continues or throws.
use Rattle.std.specs.Prelude.{ℕ, zero, suc, Bool, true, List, [], ◌∷◌, bytes_eq, if◌then◌else◌, codes}
use Rattle.es_tree.specs.Words.{Text}
use Rattle.es_tree.specs.Fresh.{is_among}
use Rattle.es_runs.specs.Machine.{Value, Cell, Stop, Result, M, ◌>>=◌, return, stop, ask, cell_of, set_cell, is_true}
use Rattle.es_runs.specs.Machine.Value.{undefined, own}
use Rattle.es_runs.specs.Machine.OwnValue.{count}
use Rattle.es_runs.specs.Machine.Values.{none, ◌and◌}
use Rattle.es_runs.specs.Machine.Question.{operator, of_statement}
use Rattle.es_runs.specs.Machine.StatementQuestion.{step, item, close}
use Rattle.es_runs.specs.Machine.Cell.{holds}
use Rattle.es_runs.specs.Machine.Stop.{throws, breaks, continues, out_of_turns}
use Rattle.es_runs.specs.Machine.Result.{gives, stops}
use Rattle.es_statement_runs.specs.Stacks.{number_in}
use Rattle.es_statement_runs.specs.Scopes.{is_completion, turns_cell}

-- LOOPS (ECMA-262, 14.7). A turn is taken before the body.

abbrev pub taken : Cell → M Value
taken (holds (own (count (suc n)))) = set_cell turns_cell (own (count n))
taken _ = stop out_of_turns

abbrev pub one_turn : M Value
one_turn = cell_of turns_cell >>= taken

-- whether a `continue` with this label, or with none, is for a loop with these labels
abbrev pub is_own : List Text → List Text → Bool
is_own ls [] = true
is_own ls (l ∷ more) = is_among ls l

-- after the body: again, or out (LoopContinues, 14.7.1.1)
abbrev pub turned : List Text → M Value → Result Value → Result Value
turned ls again (gives v s) = again s
turned ls again (stops (continues l) s) = if is_own ls l then again s else stops (continues l) s
turned ls again (stops w s) = stops w s

abbrev pub loop : ℕ → List Text → M Bool → M Value → M Value → M Value
loop zero ls test body update = stop out_of_turns
loop (suc n) ls test body update = test >>= λ b. if b then (one_turn >>= λ _. λ s. turned ls (update >>= λ _. loop n ls test body update) (body s)) else return undefined

-- a `break` without label ends the nearest loop or `switch`
abbrev pub unbroken : Result Value → Result Value
unbroken (gives v s) = gives undefined s
unbroken (stops (breaks []) s) = gives undefined s
unbroken (stops w s) = stops w s

-- A loop with these labels. One turn more than are left is never reached, so that it is the cell that ends the run.
abbrev pub looped : List Text → M Bool → M Value → M Value → M Value
looped ls test body update = λ s. unbroken ((cell_of turns_cell >>= λ c. loop (suc (number_in c)) ls test body update) s)

abbrev pub go_on_where : Value → M Value
go_on_where v = if is_true v then return undefined else stop (breaks [])

-- LABELS (14.13)

abbrev pub labelled : Text → Result Value → Result Value
labelled x (stops (breaks (l ∷ more)) s) = if bytes_eq l x then gives undefined s else stops (breaks (l ∷ more)) s
labelled x r = r

-- `try` (14.15)

abbrev pub caught : (Value → M Value) → Result Value → Result Value
caught handler (stops (throws v) s) = handler v s
caught handler r = r

-- the pending completion, where the finalizer ends normally
abbrev pub finalized : M Value → Result Value → Result Value
finalized last (gives v s) = last s
finalized last (stops w s) = if is_completion w then (last >>= λ _. stop w) s else stops w s

-- ITERATORS (7.4)

-- closing an iterator: a throw that is pending wins over one of the closing (7.4.11)
abbrev pub closed_after : {A : Type 0} → Stop → Result Value → Result A
closed_after w (gives u s) = stops w s
closed_after (throws v) (stops (throws u) s) = stops (throws v) s
closed_after w (stops u s) = stops u s

abbrev pub closing : {A : Type 0} → Bool → Value → Result A → Result A
closing true it (stops w s) = if is_completion w then closed_after w (ask (of_statement (close it)) s) else stops w s
closing _ it r = r

-- while the iterator isn't at its end, what ends the destructuring closes it
abbrev pub guarded : {A : Type 0} → Bool → Value → M A → M A
guarded alive it m = λ s. closing alive it (m s)

-- a turn of `for-of` that isn't continued closes the iterator
abbrev pub left_early : List Text → Bool → Value → Result Value → Result Value
left_early ls closes it (gives v s) = gives v s
left_early ls closes it (stops (continues l) s) = if is_own ls l then stops (continues l) s else closing closes it (stops (continues l) s)
left_early ls closes it (stops w s) = closing closes it (stops w s)

abbrev pub stepped : Value → M Bool
stepped it = ask (of_statement (step it)) >>= λ v. return (is_true v)

-- a turn for each element: step, item, and what is done with the item
abbrev pub each : List Text → Bool → (Value → M Value) → Value → M Value
each ls closes turn it = looped ls (stepped it) (ask (of_statement (item it)) >>= λ v. λ s. left_early ls closes it (turn v s)) (return undefined)

-- `switch` (14.12)

pub data Clause : Type 0 where
  when : M Value → M Value → Clause
  default : M Value → Clause

-- the clauses from the first whose test is equal, else from the default clause
abbrev pub selected : Value → List Clause → List Clause → M (List Clause)
selected v others [] = return others
selected v others (default body ∷ cs) = selected v (default body ∷ cs) cs
selected v others (when test body ∷ cs) = test >>= λ u. ask (operator (codes "===") (v and u and none)) >>= λ b. if is_true b then return (when test body ∷ cs) else selected v others cs

abbrev pub bodies : List Clause → M Value
bodies [] = return undefined
bodies (default body ∷ cs) = body >>= λ _. bodies cs
bodies (when test body ∷ cs) = body >>= λ _. bodies cs

abbrev pub switched : Value → List Clause → M Value
switched v cs = λ s. unbroken ((selected v [] cs >>= bodies) s)
