-- The laws at some programs, so that it is seen that their premises can be met.
use Rattle.es_statement_runs.proofs.RunLaws.{open_equal}
use Rattle.es_runs.specs.Core.{value}
use Rattle.es_statement_runs.specs.Kinds.{sense}
use Rattle.es_statement_runs.specs.Places.{quiet_at}
use Rattle.std.proofs.Common.{refl, []}
use Rattle.std.specs.Prelude.{Bool, true, false, ◌∷◌, Some, codes}
use Rattle.es_tree.specs.Words.{Text}
use Rattle.es_tree.specs.declared.ast_type.AstType.TheVariants.{ParenthesizedExpression, WhileStatement, TryStatement, CatchClause, IfStatement, LogicalExpression}
use Rattle.es_tree.specs.Tree.{Tree, node, done, ◌then◌, one, missing, Trees, empty, ◌before◌}
use Rattle.es_runs.specs.Alike.{bad_names, value_and_form, the_callee, Level}
use Rattle.es_runs.specs.Rules.{tested_by}
use Rattle.es_runs.specs.Runs.{made, none_hidden, only, var_statement}
use Rattle.es_statement_runs.specs.Helpers.Supply.{no_helpers}
use Rattle.es_statement_runs.specs.Places.{Take, Close, CloseTrees, take, value_taken, label_taken, target_taken, more_taken}
use Rattle.es_statement_runs.specs.Places.Close.{placed, within}
use Rattle.es_statement_runs.specs.Places.CloseFields.{close_done, close_then}
use Rattle.es_statement_runs.specs.Places.CloseField.{close_missing, close_one, close_many, close_statements}
use Rattle.es_statement_runs.specs.Places.CloseTrees.{close_empty, close_before}
use Rattle.es_statement_runs.specs.Laws.{EvaluateAlike, Swaps, NullishRow}
use Rattle.es_statement_runs.specs.Laws.NullishRow.{nullish_row}
use Rattle.es_statement_runs.specs.Laws.Swaps.{swaps}
use Rattle.es_statement_runs.proofs.Rows.{law_nullish_proof}
use Rattle.es_statement_runs.specs.Runs.{RunAlike}
use Rattle.es_statement_runs.proofs.Everywhere.{close_self}
use Rattle.es_statement_runs.proofs.RunLaws.{law_place_proof, law_fresh_proof}
use Rattle.es_statement_runs.proofs.Examples.{script, plain, x_, statement, block, label_l, break_l, declaration, for_of, head, assign, called}

-- `l: for (let x of a) { try { while ((b)) { break l; } } catch (e) { e; } }`, with and without the parentheses
abbrev around : Tree → Tree
around test = label_l (for_of (head (codes "let") (codes "x")) (x_ (codes "a")) (block (plain TryStatement (one (block (plain WhileStatement (one test then one (block (break_l before empty)) then done) before empty)) then one (plain CatchClause (one (x_ (codes "e")) then one (block (statement (x_ (codes "e")) before empty)) then done)) then missing then done) before empty)))

abbrev in_parens : Tree
in_parens = plain ParenthesizedExpression (one (x_ (codes "b")) then done)

parens_alike : EvaluateAlike false false in_parens (x_ (codes "b"))
parens_alike = record { values = λ w c ls x s. open_equal (value w (sense (quiet_at w ls x) in_parens).core s) (value w (sense (quiet_at w ls x) (x_ (codes "b"))).core s) refl; forms = λ e. absurd (cc e); first_says = λ e. absurd (cc e); second_says = λ e. absurd (cc e) }

abbrev Swapped : Take → Tree → Tree → Type 0
Swapped = Swaps (take (value_and_form false) false) in_parens (x_ (codes "b"))

abbrev nothing_bad : Level → Text → Bool
nothing_bad = bad_names none_hidden none_hidden

-- down to the test of the loop
swapped_test : Close nothing_bad Swapped value_taken (script (around in_parens before empty)) (script (around (x_ (codes "b")) before empty))
swapped_test =
    within refl refl refl refl refl refl refl (close_then (close_many close_empty) (close_then (close_statements (close_before
    (within refl refl refl refl refl refl refl (close_then (close_one (close_self nothing_bad Swapped (x_ (codes "l")) label_taken refl)) (close_then (close_one
    (within refl refl refl refl refl refl refl (close_then (close_one (close_self nothing_bad Swapped (head (codes "let") (codes "x")) target_taken refl)) (close_then (close_one (close_self nothing_bad Swapped (x_ (codes "a")) value_taken refl)) (close_then (close_one
    (within refl refl refl refl refl refl refl (close_then (close_statements (close_before
    (within refl refl refl refl refl refl refl (close_then (close_one
    (within refl refl refl refl refl refl refl (close_then (close_statements (close_before
    (within refl refl refl refl refl refl refl (close_then (close_one (placed swaps)) (close_then (close_one (close_self nothing_bad Swapped (block (break_l before empty)) value_taken refl)) close_done)))
    close_empty)) close_done)))
    (close_then (close_one (close_self nothing_bad Swapped (plain CatchClause (one (x_ (codes "e")) then one (block (statement (x_ (codes "e")) before empty)) then done)) more_taken refl)) (close_then close_missing close_done))))
    close_empty)) close_done))) close_done)))))
    close_done))) close_empty)) close_done))

place_here : RunAlike no_helpers false (script (around in_parens before empty)) (script (around (x_ (codes "b")) before empty))
place_here = law_place_proof false false in_parens (x_ (codes "b")) _ _ swapped_test parens_alike refl

-- a `var` of a fresh name, before a program of loops, patterns, scopes and `switch`
abbrev nested : Trees
nested = around in_parens before declaration (codes "let") (codes "z") (x_ (codes "a")) before block (declaration (codes "let") (codes "z") (x_ (codes "b")) before statement (assign (x_ (codes "z")) (x_ (codes "c"))) before empty) before empty

fresh_here : RunAlike no_helpers false (script nested) (script (var_statement (codes "_t") before nested))
fresh_here = law_fresh_proof (codes "_t") (made [] []) empty nested refl refl refl refl

-- `if (a ?? b) { let y = f(c ?? d); }`, with one temporary for both
abbrev coalesced : Tree → Tree → Tree
coalesced l r = node LogicalExpression (made (Some (codes "??") ∷ []) []) (one l then one r then done)

abbrev test_and_use : Tree → Tree → Tree
test_and_use e d = plain IfStatement (one e then one (block (declaration (codes "let") (codes "y") (called (x_ (codes "f")) (d before empty)) before empty)) then missing then done)

abbrev first_row : Tree
first_row = coalesced (x_ (codes "a")) (x_ (codes "b"))

abbrev second_row : Tree
second_row = coalesced (x_ (codes "c")) (x_ (codes "d"))

abbrev made_row : Tree → Tree → Tree
made_row l r = tested_by (made (Some (codes "??") ∷ []) []) (codes "_t") l r

abbrev before_rows : Trees
before_rows = test_and_use first_row second_row before empty

abbrev after_rows : Trees
after_rows = test_and_use (made_row (x_ (codes "a")) (x_ (codes "b"))) (made_row (x_ (codes "c")) (x_ (codes "d"))) before empty

abbrev Rows : Take → Tree → Tree → Type 0
Rows = NullishRow (codes "_t")

abbrev bad_here : Level → Text → Bool
bad_here = bad_names (only (codes "_t")) none_hidden

rows_here : CloseTrees bad_here Rows (take (value_and_form false) true) before_rows after_rows
rows_here = close_before
    (within refl refl refl refl refl refl refl (close_then (close_one (placed (nullish_row refl refl refl))) (close_then (close_one
    (within refl refl refl refl refl refl refl (close_then (close_statements (close_before
    (within refl refl refl refl refl refl refl (close_then (close_many (close_before
    (within refl refl refl refl refl refl refl (close_then (close_one (close_self bad_here Rows (x_ (codes "y")) target_taken refl)) (close_then (close_one
    (within refl refl refl refl refl refl refl (close_then (close_one (close_self bad_here Rows (x_ (codes "f")) (take (the_callee false) true) refl)) (close_then (close_many (close_before (placed (nullish_row refl refl refl)) close_empty)) close_done)))) close_done)))
    close_empty)) close_done)) close_empty)) close_done))) (close_then close_missing close_done))))
    close_empty

nullish_here : RunAlike no_helpers false (script before_rows) (script (var_statement (codes "_t") before after_rows))
nullish_here = law_nullish_proof (codes "_t") (made [] []) empty before_rows after_rows rows_here refl refl refl refl refl
