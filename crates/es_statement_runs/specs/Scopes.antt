-- The machine's own cells, which stops are completions, and the cells of scopes (ECMA-262, 6.2.4 and 9.1).
use Rattle.std.specs.Prelude.{ℕ, Bool, true, false, List, [], ◌∷◌, if◌then◌else◌, nat_eq, not, ◌&&◌}
use Rattle.es_tree.specs.Words.{Text}
use Rattle.es_tree.specs.Fresh.{is_among}
use Rattle.es_runs.specs.Machine.{Value, Cell, State, Stop, Result, M, return}
use Rattle.es_runs.specs.Machine.Value.{undefined}
use Rattle.es_runs.specs.Machine.Cell.{unset}
use Rattle.es_runs.specs.Machine.State.{state}
use Rattle.es_runs.specs.Machine.Stop.{throws, breaks, continues}
use Rattle.es_runs.specs.Machine.Result.{gives, stops}

-- THE MACHINE'S OWN CELLS: the turns that are left, the stack of the innermost scope that has one, how many stacks were made,
-- and what each holds. A text of a program holds bytes alone, so these are no names.

abbrev pub own_cell : List ℕ → Text
own_cell k = 256 ∷ k

abbrev pub turns_cell : Text
turns_cell = own_cell (0 ∷ [])

abbrev pub stack_cell : Text
stack_cell = own_cell (1 ∷ [])

abbrev pub stacks_cell : Text
stacks_cell = own_cell (2 ∷ [])

abbrev pub contents_cell : ℕ → Text
contents_cell n = own_cell (3 ∷ n ∷ [])

abbrev pub is_own_cell : Text → Bool
is_own_cell [] = false
is_own_cell (c ∷ cs) = nat_eq c 256

-- none of these names is such a cell
abbrev pub are_program_names : List Text → Bool
are_program_names [] = true
are_program_names (x ∷ xs) = not (is_own_cell x) && are_program_names xs

-- WHICH STOPS ARE COMPLETIONS. A read of an unset cell, a write of one or of a constant, and a call of what isn't callable end
-- the run: it is outside. So do waiting and a want of turns.

abbrev pub is_completion : Stop → Bool
is_completion (throws v) = true
is_completion (breaks l) = true
is_completion (continues l) = true
is_completion _ = false

abbrev pub done_with : Value → M Value
done_with v = return undefined

-- SCOPES: the cells of a scope's own names are put aside, and put back on every way out. Without closures that is an
-- environment of cells for each scope, and the copies that a `for` makes for each turn can't be told apart.

abbrev pub shadowed : List Text → (Text → Cell) → Text → Cell
shadowed xs c y = if is_among xs y then unset else c y

abbrev pub put_back : List Text → (Text → Cell) → (Text → Cell) → Text → Cell
put_back xs old new y = if is_among xs y then old y else new y

abbrev pub leave : List Text → (Text → Cell) → State → State
leave xs old (state c ms qs) = state (put_back xs old c) ms qs

abbrev pub left : {A : Type 0} → List Text → (Text → Cell) → Result A → Result A
left xs old (gives a s) = gives a (leave xs old s)
left xs old (stops w s) = stops w (leave xs old s)

abbrev pub scoped : {A : Type 0} → List Text → M A → M A
scoped xs m (state c ms qs) = left xs c (m (state (shadowed xs c) ms qs))
