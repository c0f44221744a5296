-- Runs of `r = a ?? b` and of what it becomes, computed: an answer for `a` of null, undefined, false and a value, a
-- throw at each question, and no answer. The questions stand with the latest first.
use Rattle.std.proofs.Common.{◌≡◌, refl, List, [], ◌∷◌}
use Rattle.std.specs.Prelude.{true, false, Some, codes}
use Rattle.es_tree.specs.Tree.{Tree, node, done, ◌then◌, one, empty, ◌before◌}
use Rattle.es_tree.specs.declared.ast_type.AstType.TheVariants.{ExpressionStatement, LogicalExpression}
use Rattle.es_runs.specs.Machine.{Value, Move, Question}
use Rattle.es_runs.specs.Machine.Values.{none, ◌and◌}
use Rattle.es_runs.specs.Machine.Value.{undefined, null, boolean, text, number}
use Rattle.es_runs.specs.Machine.Question.{read, write, put, operator}
use Rattle.es_runs.specs.Machine.Move.{answer, throw}
use Rattle.es_runs.specs.Runs.{Outcome, made, identifier, program, var_statement, run, asked, state_of, outcome, cells}
use Rattle.es_runs.specs.Runs.Outcome.{finished, threw, waiting}
use Rattle.es_runs.specs.Machine.Cell.{holds}
use Rattle.es_runs.specs.Rules.{assign_node, binary_node, member_node, tested_by}

abbrev statement : Tree → Tree
statement e = node ExpressionStatement (made [] []) (one e then done)

abbrev script : Tree → Tree
script e = program (made [] []) empty (statement e before empty)

abbrev source : Tree
source = script (assign_node (identifier (codes "r")) (node LogicalExpression (made (Some (codes "??") ∷ []) []) (one (identifier (codes "a")) then (one (identifier (codes "b")) then done))))

abbrev lowered : Tree
lowered = program (made [] []) empty (var_statement (codes "_a") before statement (assign_node (identifier (codes "r")) (tested_by (made [] []) (codes "_a") (identifier (codes "a")) (identifier (codes "b")))) before empty)

abbrev questions_of : Tree → List Move → List Question
questions_of p moves = asked (state_of (run p undefined moves))

abbrev outcome_of : Tree → List Move → Outcome
outcome_of p moves = outcome (run p undefined moves)

-- what isn't nullish is the value itself: `b` isn't read
abbrev keeps_a : Value → List Question
keeps_a v = write (codes "r") v ∷ read (codes "a") ∷ []

-- null and undefined alone ask for the right side
abbrev takes_b : List Question
takes_b = write (codes "r") (text (codes "B")) ∷ read (codes "b") ∷ read (codes "a") ∷ []

null_asks_b : questions_of source (answer null ∷ answer (text (codes "B")) ∷ answer undefined ∷ []) ≡ takes_b
null_asks_b = refl

undefined_asks_b : questions_of source (answer undefined ∷ answer (text (codes "B")) ∷ answer undefined ∷ []) ≡ takes_b
undefined_asks_b = refl

false_stays : questions_of source (answer (boolean false) ∷ answer undefined ∷ []) ≡ keeps_a (boolean false)
false_stays = refl

zero_stays : questions_of source (answer (number (codes "0")) ∷ answer undefined ∷ []) ≡ keeps_a (number (codes "0"))
zero_stays = refl

throw_at_a : outcome_of source (throw (text (codes "x")) ∷ []) ≡ threw (text (codes "x"))
throw_at_a = refl

throw_at_b : outcome_of source (answer null ∷ throw (text (codes "x")) ∷ []) ≡ threw (text (codes "x"))
throw_at_b = refl

throw_at_r : outcome_of source (answer (boolean true) ∷ throw (text (codes "x")) ∷ []) ≡ threw (text (codes "x"))
throw_at_r = refl

waits_at_b : outcome_of source (answer null ∷ []) ≡ waiting
waits_at_b = refl

-- THE SAME OF WHAT IT BECOMES

lowered_null : questions_of lowered (answer null ∷ answer (text (codes "B")) ∷ answer undefined ∷ []) ≡ takes_b
lowered_null = refl

lowered_undefined : questions_of lowered (answer undefined ∷ answer (text (codes "B")) ∷ answer undefined ∷ []) ≡ takes_b
lowered_undefined = refl

lowered_false : questions_of lowered (answer (boolean false) ∷ answer undefined ∷ []) ≡ keeps_a (boolean false)
lowered_false = refl

lowered_ends : outcome_of lowered (answer (boolean false) ∷ answer undefined ∷ []) ≡ finished
lowered_ends = refl

lowered_throws : outcome_of lowered (answer null ∷ throw (text (codes "x")) ∷ []) ≡ threw (text (codes "x"))
lowered_throws = refl

-- the temporary holds what was read
lowered_cell : cells (state_of (run lowered undefined (answer (boolean false) ∷ answer undefined ∷ []))) (codes "_a") ≡ holds (boolean false)
lowered_cell = refl

-- THE ORDER OF QUESTIONS

abbrev a-b : Tree
a-b = member_node false (identifier (codes "a")) (identifier (codes "b"))

abbrev three : List Move
three = answer (text (codes "A")) ∷ answer (text (codes "C")) ∷ answer undefined ∷ []

-- `a.b = c` reads `a`, then `c`, and then puts (ECMA-262, 13.15.2)
target_first : questions_of (script (assign_node a-b (identifier (codes "c")))) three
    ≡ put (text (codes "A")) (text (codes "b")) (text (codes "C")) ∷ read (codes "c") ∷ read (codes "a") ∷ []
target_first = refl

-- `a + c` reads `a`, then `c` (ECMA-262, 13.15.4)
left_operand_first : questions_of (script (binary_node (codes "+") (identifier (codes "a")) (identifier (codes "c")))) three
    ≡ operator (codes "+") (text (codes "A") and text (codes "C") and none) ∷ read (codes "c") ∷ read (codes "a") ∷ []
left_operand_first = refl
