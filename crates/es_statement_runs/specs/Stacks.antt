-- Stacks of what is taken into use (Explicit Resource Management), and scopes that have one.
use Rattle.std.specs.Prelude.{ℕ, zero, suc, Bool, true, false, List, ◌∷◌, Option, Some, None, if◌then◌else◌}
use Rattle.es_tree.specs.Words.{Text}
use Rattle.es_runs.specs.Machine.{Value, Values, Cell, Result, M, ◌>>=◌, return, stop, ask, cell_of, set_cell, is_nullish}
use Rattle.es_runs.specs.Machine.Value.{undefined, own}
use Rattle.es_runs.specs.Machine.OwnValue.{suppressed, stack, count, contents}
use Rattle.es_runs.specs.Machine.Values.{none, ◌and◌}
use Rattle.es_runs.specs.Machine.Question.{of_statement}
use Rattle.es_runs.specs.Machine.StatementQuestion.{method, dispose}
use Rattle.es_runs.specs.Machine.Cell.{holds}
use Rattle.es_runs.specs.Machine.Stop.{throws, unknown}
use Rattle.es_runs.specs.Machine.Result.{gives, stops}
use Rattle.es_statement_runs.specs.Scopes.{scoped, is_completion, stack_cell, contents_cell, stacks_cell}

-- STACKS (Explicit Resource Management): each value with its method, the latest first

-- disposes from the top; a throw takes the place of what is pending, and keeps it as suppressed (DisposeResources)
abbrev pub throw_over : Option Value → Value → Value
throw_over (Some old) v = own (suppressed v old)
throw_over None v = v

abbrev pub after_dispose : (Option Value → M Value) → Option Value → Result Value → Result Value
after_dispose rest pending (gives u s) = rest pending s
after_dispose rest pending (stops (throws v) s) = rest (Some (throw_over pending v)) s
after_dispose rest pending (stops w s) = stops w s

abbrev pub then_pending : Option Value → M Value
then_pending None = return undefined
then_pending (Some v) = stop (throws v)

abbrev pub disposed : Values → Option Value → M Value
disposed (v and (m and rest)) pending = λ s. after_dispose (disposed rest) pending (ask (of_statement (dispose v m)) s)
disposed _ pending = then_pending pending

abbrev pub number_in : Cell → ℕ
number_in (holds (own (count n))) = n
number_in _ = zero

abbrev pub entries_in : Cell → Values
entries_in (holds (own (contents p vs))) = vs
entries_in _ = none

abbrev pub pending_in : Cell → Option Value
pending_in (holds (own (contents (v and p) vs))) = Some v
pending_in _ = None

-- makes a stack, with the next number, that holds nothing
abbrev pub numbered_stack : ℕ → M Value
numbered_stack n = set_cell stacks_cell (own (count (suc n))) >>= λ _. set_cell (contents_cell n) (own (contents none none)) >>= λ _. return (own (stack n))

abbrev pub new_stack : M Value
new_stack = cell_of stacks_cell >>= λ c. numbered_stack (number_in c)

-- takes a value into use: its method is asked and pushed with it, unless it is nullish
abbrev pub pushed : Value → Value → Cell → Value
pushed v m (holds (own (contents p vs))) = own (contents p (v and m and vs))
pushed v m _ = own (contents none (v and m and none))

abbrev pub taken_into_use : ℕ → Value → M Value
taken_into_use n v = if is_nullish v then return v else (ask (of_statement (method v)) >>= λ m. cell_of (contents_cell n) >>= λ c. set_cell (contents_cell n) (pushed v m c) >>= λ _. return v)

-- keeps an error as pending
abbrev pub failed_with : ℕ → Value → M Value
failed_with n v = cell_of (contents_cell n) >>= λ c. set_cell (contents_cell n) (own (contents (v and none) (entries_in c))) >>= λ _. return v

-- disposes of all that a stack holds, and empties it
abbrev pub all_disposed : ℕ → M Value
all_disposed n = cell_of (contents_cell n) >>= λ c. set_cell (contents_cell n) (own (contents none none)) >>= λ _. disposed (entries_in c) (pending_in c)

-- does this with the stack that a cell holds
abbrev pub on_stack_in : {A : Type 0} → (ℕ → M A) → Cell → M A
on_stack_in f (holds (own (stack n))) = f n
on_stack_in f _ = stop unknown

-- a declaration by `using` takes its value into use on the innermost scope's stack
abbrev pub used : Value → M Value
used v = cell_of stack_cell >>= on_stack_in (λ n. taken_into_use n v)

-- On every way out that is a completion all is disposed; a throw is kept as pending before, and what else was pending goes on
-- after.
abbrev pub on_own_stack : (ℕ → M Value) → M Value
on_own_stack f = cell_of stack_cell >>= on_stack_in f

abbrev pub emptied : Result Value → Result Value
emptied (gives u s) = on_own_stack all_disposed s
emptied (stops (throws v) s) = on_own_stack (λ n. failed_with n v >>= λ _. all_disposed n) s
emptied (stops w s) = if is_completion w then (on_own_stack all_disposed >>= λ _. stop w) s else stops w s

abbrev pub with_stack : M Value → M Value
with_stack m = λ s. emptied ((new_stack >>= λ k. set_cell stack_cell k >>= λ _. m) s)

-- What a scope declares: its names, and whether by `using`
pub record Scope : Type 0 where
  pub names : List Text
  pub uses : Bool

abbrev pub with_stack_where : Bool → M Value → M Value
with_stack_where true m = with_stack m
with_stack_where false m = m

abbrev pub own_cells : Scope → List Text
own_cells b = if b.uses then stack_cell ∷ b.names else b.names

abbrev pub in_scope : Scope → M Value → M Value
in_scope b m = scoped (own_cells b) (with_stack_where b.uses m)
