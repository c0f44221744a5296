-- Runs of `a **= b`, `o[k] **= b` and `o[k] ||= c`, and of what they become, computed: answers for all questions, and a
-- throw at each. The questions stand with the latest first.
use Rattle.std.proofs.Common.{◌≡◌, refl, List, [], ◌∷◌, arith}
use Rattle.std.specs.Prelude.{Bool, true, false, Some, codes}
use Rattle.es_tree.specs.Words.{Text}
use Rattle.es_tree.specs.Fresh.{IsFreshName, is_among, node_base}
use Rattle.es_tree.specs.Names.{first_text}
use Rattle.es_tree.specs.Tree.{Tree, node, Label, done, ◌then◌, one, empty, ◌before◌}
use Rattle.es_tree.specs.declared.ast_type.AstType.TheVariants.{AssignmentExpression, ExpressionStatement, Identifier}
use Rattle.es_runs.specs.Machine.{Value, Move, Question}
use Rattle.es_runs.specs.Machine.Values.{none, ◌and◌}
use Rattle.es_runs.specs.Machine.Value.{undefined, boolean, host, number, text}
use Rattle.es_runs.specs.Machine.Question.{get, operator, put, read, write}
use Rattle.es_runs.specs.Machine.Move.{answer, throw}
use Rattle.es_runs.specs.Machine.Cell.{holds}
use Rattle.es_runs.specs.Alike.{Need}
use Rattle.es_runs.specs.Duplication.IsDuplicated.{by_temporary}
use Rattle.es_runs.specs.Exponentiation.{ExponentiationRule, Holds, TargetTwice, assigned_power, no_name, stays}
use Rattle.es_runs.specs.Exponentiation.ExponentiationRule.{power_assignment}
use Rattle.es_runs.specs.Exponentiation.Holds.{in_temporary, where_it_is}
use Rattle.es_runs.specs.Exponentiation.TargetTwice.{bound_name, other_key, other_name}
use Rattle.es_runs.specs.LogicalAssignment.{LogicalAssignmentRule, assigned_where}
use Rattle.es_runs.specs.LogicalAssignment.LogicalAssignmentRule.{to_computed_member}
use Rattle.es_runs.specs.Open.{nothing_pending, with_vars, written}
use Rattle.es_runs.specs.Rules.{assign_node, member_node}
use Rattle.es_runs.specs.Runs.{Outcome, made, identifier, program, run, asked, state_of, outcome, cells, only, var_statement}
use Rattle.es_runs.specs.Runs.Outcome.{finished, threw, waiting}
use Rattle.es_runs.specs.NullishCoalescing.{also_all}

abbrev statement : Tree → Tree
statement e = node ExpressionStatement (made [] []) (one e then done)

abbrev script : Tree → Tree
script e = program (made [] []) empty (statement e before empty)

-- with `var` declarators of these names
abbrev declaring : List Text → Tree → Tree
declaring xs e = program (made [] []) empty (written (with_vars xs nothing_pending) (statement e before empty))

-- both programs ask these questions on these moves, and end so
pub record BothAsk (p q : Tree) (moves : List Move) (end : Outcome) (questions : List Question) : Type 0 where
  pub source_ends : outcome (run p undefined moves) ≡ end
  pub lowered_ends : outcome (run q undefined moves) ≡ end
  pub source_asks : asked (state_of (run p undefined moves)) ≡ questions
  pub lowered_asks : asked (state_of (run q undefined moves)) ≡ questions

abbrev error : Value
error = text (codes "x")

abbrev label_of : Text → Label
label_of op = made (Some op ∷ []) []

abbrev assigning : Text → Tree → Tree → Tree
assigning op t e = node AssignmentExpression (label_of op) (one t then (one e then done))

abbrev a : Tree
a = identifier (codes "a")

abbrev b : Tree
b = identifier (codes "b")

abbrev o : Tree
o = identifier (codes "o")

abbrev k : Tree
k = identifier (codes "k")

abbrev o-k : Tree
o-k = member_node true o k

abbrev two : Value
two = number (codes "2")

abbrev three : Value
three = number (codes "3")

abbrev eight : Value
eight = number (codes "8")

abbrev an_object : Value
an_object = host 1 false true false

abbrev a_key : Value
a_key = text (codes "key")

abbrev raises : Question
raises = operator (codes "**") (two and three and none)

-- `a **= b` OF A NAME THAT ISN'T BOUND: `_a = a, a = Math.pow(_a, b)`

abbrev raised : Tree
raised = assigned_power (label_of (codes "**=")) (assign_node (identifier (codes "_a")) a ∷ []) a (identifier (codes "_a")) b

fresh_a : IsFreshName (is_among (codes "a" ∷ codes "b" ∷ [])) (node_base a) (codes "_a")
fresh_a = record { number = 0; name = refl; free = refl; first = λ m h. absurd (omega arith) }

-- it is what the row makes
raised_by_the_row : (n : Need) → ExponentiationRule no_name (is_among (codes "a" ∷ codes "b" ∷ [])) (codes "_a" ∷ []) n (assigning (codes "**=") a b) raised
raised_by_the_row n = power_assignment refl refl (other_name refl fresh_a)

abbrev source : Tree
source = script (assigning (codes "**=") a b)

abbrev lowered : Tree
lowered = declaring (codes "_a" ∷ []) raised

name_raised : BothAsk source lowered (answer two ∷ answer three ∷ answer eight ∷ answer undefined ∷ []) finished
    (write (codes "a") eight ∷ raises ∷ read (codes "b") ∷ read (codes "a") ∷ [])
name_raised = record { source_ends = refl; lowered_ends = refl; source_asks = refl; lowered_asks = refl }

throw_at_a : BothAsk source lowered (throw error ∷ []) (threw error) (read (codes "a") ∷ [])
throw_at_a = record { source_ends = refl; lowered_ends = refl; source_asks = refl; lowered_asks = refl }

throw_at_b : BothAsk source lowered (answer two ∷ throw error ∷ []) (threw error) (read (codes "b") ∷ read (codes "a") ∷ [])
throw_at_b = record { source_ends = refl; lowered_ends = refl; source_asks = refl; lowered_asks = refl }

throw_at_operator : BothAsk source lowered (answer two ∷ answer three ∷ throw error ∷ []) (threw error) (raises ∷ read (codes "b") ∷ read (codes "a") ∷ [])
throw_at_operator = record { source_ends = refl; lowered_ends = refl; source_asks = refl; lowered_asks = refl }

throw_at_write : BothAsk source lowered (answer two ∷ answer three ∷ answer eight ∷ throw error ∷ []) (threw error) (write (codes "a") eight ∷ raises ∷ read (codes "b") ∷ read (codes "a") ∷ [])
throw_at_write = record { source_ends = refl; lowered_ends = refl; source_asks = refl; lowered_asks = refl }

waits_at_operator : BothAsk source lowered (answer two ∷ answer three ∷ []) waiting (raises ∷ read (codes "b") ∷ read (codes "a") ∷ [])
waits_at_operator = record { source_ends = refl; lowered_ends = refl; source_asks = refl; lowered_asks = refl }

-- a name that is bound takes no temporary, nor does an object that stays
bound_takes_none : {bound in_use : Text → Bool} {xs : List Text} {fs : List Tree} {l : Label} {target read : Tree} → bound (first_text l.texts) ≡ true → TargetTwice bound in_use xs fs (node Identifier l done) target read → xs ≡ []
bound_takes_none is (bound_name e) = refl
bound_takes_none is (other_name unbound fresh) = absurd (cc (is, unbound))

staying_takes_none : {bound in_use : Text → Bool} {xs : List Text} {fs : List Tree} {e e' : Tree} → stays bound e ≡ true → Holds bound in_use xs fs e e' → xs ≡ []
staying_takes_none is (where_it_is e) = refl
staying_takes_none is (in_temporary goes fresh) = absurd (cc (is, goes))

-- `o[k] **= b`: `_o = o, _k = k, _o[_k] = Math.pow(_o[_k], b)`

abbrev o-k-stored : Tree
o-k-stored = member_node true (identifier (codes "_o")) (identifier (codes "_k"))

abbrev member_raised : Tree
member_raised = assigned_power (label_of (codes "**=")) (assign_node (identifier (codes "_o")) o ∷ assign_node (identifier (codes "_k")) k ∷ []) o-k-stored o-k-stored b

fresh_o : IsFreshName (is_among (codes "o" ∷ codes "k" ∷ codes "b" ∷ [])) (node_base o) (codes "_o")
fresh_o = record { number = 0; name = refl; free = refl; first = λ m h. absurd (omega arith) }

fresh_k : IsFreshName (also_all (codes "_o" ∷ []) (is_among (codes "o" ∷ codes "k" ∷ codes "b" ∷ []))) (node_base k) (codes "_k")
fresh_k = record { number = 0; name = refl; free = refl; first = λ m h. absurd (omega arith) }

member_raised_by_the_row : (n : Need) → ExponentiationRule no_name (is_among (codes "o" ∷ codes "k" ∷ codes "b" ∷ [])) (codes "_o" ∷ codes "_k" ∷ []) n (assigning (codes "**=") o-k b) member_raised
member_raised_by_the_row n = power_assignment refl refl (other_key refl refl (in_temporary refl fresh_o) fresh_k)

abbrev member_source : Tree
member_source = script (assigning (codes "**=") o-k b)

abbrev member_lowered : Tree
member_lowered = declaring (codes "_o" ∷ codes "_k" ∷ []) member_raised

-- the object and the key are evaluated once, and the member is read before `b`
member_asks : BothAsk member_source member_lowered (answer an_object ∷ answer a_key ∷ answer two ∷ answer three ∷ answer eight ∷ answer undefined ∷ []) finished
    (put an_object a_key eight ∷ raises ∷ read (codes "b") ∷ get an_object a_key ∷ read (codes "k") ∷ read (codes "o") ∷ [])
member_asks = record { source_ends = refl; lowered_ends = refl; source_asks = refl; lowered_asks = refl }

throw_at_get : BothAsk member_source member_lowered (answer an_object ∷ answer a_key ∷ throw error ∷ []) (threw error) (get an_object a_key ∷ read (codes "k") ∷ read (codes "o") ∷ [])
throw_at_get = record { source_ends = refl; lowered_ends = refl; source_asks = refl; lowered_asks = refl }

-- `o[k] ||= b`: `(_o = o)[_k = k] || (_o[_k] = b)`

abbrev tested : Tree
tested = assigned_where (label_of (codes "||=")) (codes "||=") (member_node true (assign_node (identifier (codes "_o")) o) (assign_node (identifier (codes "_k")) k)) o-k-stored b

tested_by_the_row : (n : Need) → LogicalAssignmentRule no_name (is_among (codes "o" ∷ codes "k" ∷ codes "b" ∷ [])) (codes "_o" ∷ codes "_k" ∷ []) n (assigning (codes "||=") o-k b) tested
tested_by_the_row n = to_computed_member refl refl refl refl (by_temporary refl fresh_o) (by_temporary refl fresh_k)

abbrev or_source : Tree
or_source = script (assigning (codes "||=") o-k b)

abbrev or_lowered : Tree
or_lowered = declaring (codes "_o" ∷ codes "_k" ∷ []) tested

-- false is replaced
false_replaced : BothAsk or_source or_lowered (answer an_object ∷ answer a_key ∷ answer (boolean false) ∷ answer three ∷ answer undefined ∷ []) finished
    (put an_object a_key three ∷ read (codes "b") ∷ get an_object a_key ∷ read (codes "k") ∷ read (codes "o") ∷ [])
false_replaced = record { source_ends = refl; lowered_ends = refl; source_asks = refl; lowered_asks = refl }

-- true stays: `b` isn't read, and nothing is put
true_stays : BothAsk or_source or_lowered (answer an_object ∷ answer a_key ∷ answer (boolean true) ∷ []) finished (get an_object a_key ∷ read (codes "k") ∷ read (codes "o") ∷ [])
true_stays = record { source_ends = refl; lowered_ends = refl; source_asks = refl; lowered_asks = refl }

-- A BOUND NAME: `a = Math.pow(a, b)`

abbrev with_a : Tree → Tree
with_a e = program (made [] []) empty (var_statement (codes "a") before statement (assign_node a (identifier (codes "c"))) before statement e before empty)

abbrev bound_raised : Tree
bound_raised = assigned_power (label_of (codes "**=")) [] a a b

bound_raised_by_the_row : (n : Need) → ExponentiationRule (only (codes "a")) (is_among (codes "a" ∷ codes "b" ∷ codes "c" ∷ [])) [] n (assigning (codes "**=") a b) bound_raised
bound_raised_by_the_row n = power_assignment refl refl (bound_name refl)

bound_asks : BothAsk (with_a (assigning (codes "**=") a b)) (with_a bound_raised) (answer two ∷ answer three ∷ answer eight ∷ []) finished (raises ∷ read (codes "b") ∷ read (codes "c") ∷ [])
bound_asks = record { source_ends = refl; lowered_ends = refl; source_asks = refl; lowered_asks = refl }

-- its cell holds what the operator gave
bound_cell : cells (state_of (run (with_a bound_raised) undefined (answer two ∷ answer three ∷ answer eight ∷ []))) (codes "a") ≡ holds eight
bound_cell = refl
