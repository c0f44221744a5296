-- Runs of programs, and when two programs run alike.
use Rattle.std.specs.Prelude.{◌≡◌, ◌&&◌, Bool, true, false, List, [], ◌∷◌, ◌++◌, bytes_eq, codes, if◌then◌else◌, not, Option, Some}
use Rattle.es_tree.specs.Words.{Text}
use Rattle.es_tree.specs.declared.ast_type.AstType.TheVariants.{Program, Identifier, VariableDeclaration, VariableDeclarator}
use Rattle.es_tree.specs.Tree.{Tree, node, Label, done, ◌then◌, missing, one, many, statements, Trees, empty, ◌before◌, trees}
use Rattle.es_runs.specs.Machine.{Value, OwnValue, Values, ◌>>=◌, stop, Question, Move, Cell, State, Result}
use Rattle.es_runs.specs.Machine.Value.{undefined, host, bound, own}
use Rattle.es_runs.specs.Machine.OwnValue.{suppressed, list, contents}
use Rattle.es_runs.specs.Machine.Values.{none, ◌and◌}
use Rattle.es_runs.specs.Machine.Move.{answer, throw}
use Rattle.es_runs.specs.Machine.Cell.{unset, holds}
use Rattle.es_runs.specs.Machine.State.{state}
use Rattle.es_runs.specs.Machine.Stop.{throws, faults, waits, uncallable, unknown}
use Rattle.es_runs.specs.Machine.Result.{gives, stops}
use Rattle.es_tree.specs.Scopes.{Declared, declared_of}
use Rattle.es_runs.specs.Core.{World, Binding, value, meaning, is_free, typeof_value}
use Rattle.es_runs.specs.Core.Binding.{free, changeable, constant}
use Rattle.es_runs.specs.Alike.{Level, Need, all_of_it, Near, touches, bad_names}
use Rattle.es_runs.specs.Alike.Level.{no_evaluation, value_alone, an_operand_of_typeof, whole_reference, a_callee, a_target}

-- DECLARED NAMES AS CELLS

abbrev pub binding_of : Text → Binding
binding_of kind = if bytes_eq kind (codes "const") then constant else changeable

abbrev pub first_cell : Text → Cell
first_cell kind = if bytes_eq kind (codes "var") then holds undefined else unset

abbrev pub scope_of : List Declared → Text → Binding
scope_of [] x = free
scope_of (d ∷ ds) x = if bytes_eq x d.name then binding_of d.kind else scope_of ds x

abbrev pub cells_of : List Declared → Text → Cell
cells_of [] x = unset
cells_of (d ∷ ds) x = if bytes_eq x d.name then first_cell d.kind else cells_of ds x

-- RUNS (ECMA-262, 16.1.6 and 16.1.7)

abbrev pub world_of : Bool → Value → List Declared → World
world_of counts this ds = record { scope = scope_of ds; this = this; counts_all = counts; other = λ t. stop unknown; spreads = false }

-- the run of a program with these declared names, where `document.all` counts as null for `==`, or not
abbrev pub run_where : Bool → List Declared → Tree → Value → List Move → Result Value
run_where counts ds p this moves = let w = world_of counts this ds in value w (meaning w p) (state (cells_of ds) moves [])

-- where it counts, as ECMA-262 has it
abbrev pub run_with : List Declared → Tree → Value → List Move → Result Value
run_with = run_where true

abbrev pub run : Tree → Value → List Move → Result Value
run p = run_with (declared_of p) p

pub data Outcome : Type 0 where
  finished : Outcome
  threw : Value → Outcome
  waiting called_uncallable not_core : Outcome

abbrev pub outcome : Result Value → Outcome
outcome (gives v s) = finished
outcome (stops (throws v) s) = threw v
outcome (stops (faults v) s) = threw v
outcome (stops waits s) = waiting
outcome (stops uncallable s) = called_uncallable
outcome (stops _ s) = not_core

abbrev pub state_of : Result Value → State
state_of (gives v s) = s
state_of (stops w s) = s

abbrev pub asked : State → List Question
asked (state c ms qs) = qs

abbrev pub cells : State → Text → Cell
cells (state c ms qs) = c

-- the same outcome, the same questions, and equal cells of the names that count
pub record SameRun (counts : Text → Bool) (r q : Result Value) : Type 0 where
  pub outcomes : outcome q ≡ outcome r
  pub questions : asked (state_of q) ≡ asked (state_of r)
  pub final_cells : (x : Text) → counts x ≡ true → cells (state_of q) x ≡ cells (state_of r) x

abbrev pub is_declared : List Declared → Text → Bool
is_declared ds x = not (is_free (scope_of ds x))

-- THE ASSUMPTION THAT NO VALUE IS `document.all`

-- no host value in a value is `document.all`
abbrev mutual
  pub lacks_all : Value → Bool
  lacks_all (host n callable truthy all) = not all
  lacks_all (bound f r vs) = lacks_all f && lacks_all r && values_lack vs
  lacks_all (own v) = own_lacks v
  lacks_all _ = true

  pub own_lacks : OwnValue → Bool
  own_lacks (suppressed v u) = lacks_all v && lacks_all u
  own_lacks (list vs) = values_lack vs
  own_lacks (contents us vs) = values_lack us && values_lack vs
  own_lacks _ = true

  pub values_lack : Values → Bool
  values_lack none = true
  values_lack (v and vs) = lacks_all v && values_lack vs

abbrev pub move_lacks : Move → Bool
move_lacks (answer v) = lacks_all v
move_lacks (throw v) = lacks_all v

abbrev pub moves_lack : List Move → Bool
moves_lack [] = true
moves_lack (m ∷ ms) = move_lacks m && moves_lack ms

-- where it is assumed that no value is `document.all`: neither `this` nor a move has one
abbrev pub IsAssumed : Bool → Value → List Move → Type 0
IsAssumed no_all this moves = no_all ≡ true → (lacks_all this ≡ true) × (moves_lack moves ≡ true)

-- Source and output run alike, under this assumption or without it: for each value of `this` and list of moves, unless the
-- source calls what isn't callable.
abbrev pub RunAlike : Bool → Tree → Tree → Type 0
RunAlike no_all p q = (this : Value) (moves : List Move) → IsAssumed no_all this moves → (outcome (run p this moves) ≡ called_uncallable → ⊥) → SameRun (is_declared (declared_of p)) (run p this moves) (run q this moves)

-- FRESH NAMES

-- the name x alone
abbrev pub only : Text → Text → Bool
only x y = bytes_eq y x

abbrev pub none_hidden : Text → Bool
none_hidden x = false

-- the name stands in the tree, other than as the key of a member
abbrev pub stands : Text → Tree → Bool
stands x = touches (bad_names (only x) none_hidden) all_of_it

-- MADE NODES

abbrev pub made : List (Option Text) → List Bool → Label
made ts fs = record { id = 0; start = 0; stop = 0; texts = ts; flags = fs; marks = [] }

abbrev pub identifier : Text → Tree
identifier x = node Identifier (made (Some x ∷ []) []) done

-- `var x;`
abbrev pub var_statement : Text → Tree
var_statement x = node VariableDeclaration (made (Some (codes "var") ∷ []) []) (many (node VariableDeclarator (made [] []) (one (identifier x) then missing then done) before empty) then done)

abbrev pub program : Label → Trees → Trees → Tree
program l directives body = node Program l (many directives then statements body then done)

-- LAWS

-- A `var` of a name that stands nowhere, before, between or after the statements, keeps the runs.
abbrev pub LawFresh : Type 0
LawFresh = (x : Text) (l : Label) (ds : Trees) (front back : List Tree) → stands x (program l ds (trees (front ++ back))) ≡ false → is_declared (declared_of (program l ds (trees (front ++ back)))) x ≡ false → RunAlike false (program l ds (trees (front ++ back))) (program l ds (trees (front ++ var_statement x ∷ back)))

-- a world in which these names are declared, under the assumption or without it
pub record IsWorldOf (no_all : Bool) (ds : List Declared) (w : World) : Type 0 where
  pub scope : (x : Text) → w.scope x ≡ scope_of ds x
  pub counts : w.counts_all ≡ not no_all
  pub other : (t : Tree) → w.other t ≡ stop unknown
  pub spreads : w.spreads ≡ false

-- e and d evaluate alike in such worlds, at what a place takes
abbrev pub EvaluateAlike : Bool → List Declared → Level → Tree → Tree → Type 0
EvaluateAlike no_all ds no_evaluation e d = Unit {0}
EvaluateAlike no_all ds value_alone e d = (w : World) → IsWorldOf no_all ds w → (s : State) → value w (meaning w d) s ≡ value w (meaning w e) s
EvaluateAlike no_all ds an_operand_of_typeof e d = (w : World) → IsWorldOf no_all ds w → (s : State) → ((meaning w d).reference >>= typeof_value w) s ≡ ((meaning w e).reference >>= typeof_value w) s
EvaluateAlike no_all ds a_target e d = (w : World) → IsWorldOf no_all ds w → (s : State) → (meaning w d).reference s ≡ (meaning w e).reference s
EvaluateAlike no_all ds a_callee e d = (w : World) → IsWorldOf no_all ds w → (s : State) → (meaning w d).reference s ≡ (meaning w e).reference s
EvaluateAlike no_all ds whole_reference e d = (w : World) → IsWorldOf no_all ds w → (s : State) → (meaning w d).reference s ≡ (meaning w e).reference s

pub data Swaps (need : Need) (e d : Tree) : Need → Tree → Tree → Type 0 where
  swaps : Swaps need e d need e d

-- q is p but at a place with this need, where p has e and q has d
abbrev pub Swapped : Need → Tree → Tree → Tree → Tree → Type 0
Swapped need e d p q = Near (bad_names none_hidden none_hidden) (Swaps need e d) all_of_it p q

-- Replacing an expression by one that evaluates alike where the program's names are declared, at what the place takes of it,
-- keeps the runs.
abbrev pub LawPlace : Type 0
LawPlace = (no_all : Bool) (need : Need) (e d p q : Tree) → Swapped need e d p q → EvaluateAlike no_all (declared_of p) need.level e d → ((w : World) → IsWorldOf no_all (declared_of p) w → need.form ≡ true → (meaning w d).form ≡ (meaning w e).form) → declared_of q ≡ declared_of p → RunAlike no_all p q
