-- The laws of rows at some programs, so that it is seen that their premises can be met.
use Rattle.std.proofs.Common.{◌≡◌, refl, []}
use Rattle.std.specs.Prelude.{ℕ, Bool, List, true, false, ◌∷◌, Some, codes}
use Rattle.es_tree.specs.Words.{Text}
use Rattle.es_tree.specs.declared.ast_type.AstType.TheVariants.{BreakStatement, WhileStatement, TryStatement, IfStatement, AssignmentExpression, BinaryExpression, ChainExpression, MemberExpression, Identifier, ForOfStatement, PatternProperty, RestElement, VariableDeclaration, CatchClause}
use Rattle.es_tree.specs.Tree.{Tree, node, done, ◌then◌, one, missing, Trees, empty, ◌before◌, many}
use Rattle.es_runs.specs.Core.{Binding}
use Rattle.es_runs.specs.Core.Silent.{helper_name, keys_name}
use Rattle.es_runs.specs.Core.Binding.{free, changeable, constant, silent}
use Rattle.es_runs.specs.Alike.{bad_names, value_and_form, Level, set_cells, touches}
use Rattle.es_runs.specs.Runs.{made, none_hidden, only, identifier, program}
use Rattle.es_runs.specs.LogicalAssignment.{assigned_where}
use Rattle.es_runs.specs.Exponentiation.{power_at}
use Rattle.es_statement_runs.specs.Calls.{is_spread}
use Rattle.es_statement_runs.specs.Senses.{said_of}
use Rattle.es_statement_runs.specs.Helpers.Supply.{no_helpers, by_global}
use Rattle.es_statement_runs.specs.Places.{Take, Close, CloseTrees, take, value_taken, more_taken}
use Rattle.es_statement_runs.specs.Places.Close.{placed, within}
use Rattle.es_statement_runs.specs.Places.CloseFields.{close_done, close_then}
use Rattle.es_statement_runs.specs.Places.CloseField.{close_missing, close_one, close_many, close_statements}
use Rattle.es_statement_runs.specs.Places.CloseTrees.{close_empty, close_before}
use Rattle.es_statement_runs.specs.Laws.{bad_using, bad_with, UsingRow, wrap, block_of, context_call_node, declarator_at, CatchRow, CatchPatternRow, HeadRow, HeadMoves, object_pattern_at, declare_statement, let_statement, head_of, later, LetRow, body_needs, nothing_bad, SpreadRow, object_at, spread_at, spread_call, AssignRow, PowerRow}
use Rattle.es_statement_runs.specs.Laws.UsingRow.{using_row}
use Rattle.es_statement_runs.specs.Laws.Wrapped.{none_wrapped, use_wrapped, rest_wrapped}
use Rattle.es_statement_runs.specs.Laws.TakenUp.{none_taken, one_taken}
use Rattle.es_statement_runs.specs.Laws.OneVar.{here_var}
use Rattle.es_statement_runs.specs.Laws.CatchRow.{catch_row}
use Rattle.es_statement_runs.specs.Laws.CatchPatternRow.{catch_pattern_row}
use Rattle.es_statement_runs.specs.Laws.HeadRow.{of_const_row}
use Rattle.es_statement_runs.specs.Laws.LetRow.{let_row}
use Rattle.es_statement_runs.specs.Laws.NamedDeclarators.{no_declarator, named_declarator}
use Rattle.es_statement_runs.specs.Laws.ByVar.{none_declared, later_declared}
use Rattle.es_statement_runs.specs.Laws.SpreadRow.{spread_last}
use Rattle.es_statement_runs.specs.Laws.Gathered.{begin_gathering, one_gathered}
use Rattle.es_statement_runs.specs.Laws.PowerRow.{power_row}
use Rattle.es_statement_runs.specs.Laws.AssignRow.{assign_row}
use Rattle.es_statement_runs.proofs.Later.{law_later_proof}
use Rattle.es_statement_runs.proofs.CatchPatterns.{law_catch_pattern_proof}
use Rattle.es_statement_runs.proofs.Heads.{law_head_proof}
use Rattle.es_runs.specs.Machine.{Value, Move}
use Rattle.es_statement_runs.specs.Runs.{RunAlike, run, outcome}
use Rattle.es_statement_runs.specs.Runs.Outcome.{meaningless}
use Rattle.es_statement_runs.specs.Meant.{is_meant}
use Rattle.es_statement_runs.proofs.MeantProof.{law_meant_proof}
use Rattle.es_statement_runs.proofs.Catches.{law_catch_proof}
use Rattle.es_statement_runs.proofs.Everywhere.{close_self}
use Rattle.es_statement_runs.proofs.Spreads.{law_spread_proof}
use Rattle.es_statement_runs.proofs.MoreRows.{law_power_proof, law_assign_proof}
use Rattle.es_statement_runs.proofs.Using.{law_using_proof}
use Rattle.es_statement_runs.proofs.Examples.{plain, x_, statement, block, label_l, break_l, called, assign, property, object_script, array_script, head_source, for_let, switch_script, shadow_script, using_source, spread_source}

-- `while (t) { using x = a; l: { f(x); break l; } }` with External helpers
abbrev c_ : Text
c_ = codes "_c"

abbrev rest_of_block : Tree
rest_of_block = label_l (block (statement (called (x_ (codes "f")) (x_ (codes "x") before empty)) before break_l before empty))

abbrev used_list : Trees
used_list = node VariableDeclaration (made (Some (codes "using") ∷ []) []) (many (declarator_at (made [] []) (made (Some (codes "x") ∷ []) []) (x_ (codes "a")) before empty) then done) before rest_of_block before empty

abbrev taken_list : Trees
taken_list = node VariableDeclaration (made (Some (codes "const") ∷ []) []) (many (declarator_at (made [] []) (made (Some (codes "x") ∷ []) []) (context_call_node c_ (codes "u") (x_ (codes "a") before empty)) before empty) then done) before rest_of_block before empty

abbrev in_while : Tree → Tree
in_while b = plain WhileStatement (one (x_ (codes "t")) then one b then done)

abbrev using_body : Trees
using_body = in_while (block_of (made [] []) used_list) before empty

abbrev wrapped_body : Trees
wrapped_body = in_while (wrap c_ (made [] []) taken_list) before empty

unspread_name : (b : Binding) → is_spread (said_of b) ≡ false
unspread_name free = refl
unspread_name changeable = refl
unspread_name constant = refl
unspread_name (silent (helper_name h)) = refl
unspread_name (silent (keys_name us)) = refl

using_rows : CloseTrees (bad_using c_) (UsingRow c_) body_needs using_body wrapped_body
using_rows = close_before (within refl refl refl refl refl refl refl (close_then (close_one (close_self (bad_using c_) (UsingRow c_) (x_ (codes "t")) value_taken refl))
    (close_then (close_one (placed (using_row (use_wrapped refl refl (one_taken (λ w. unspread_name (w.scope (codes "a"))) refl refl refl none_taken) (rest_wrapped refl refl none_wrapped)) refl refl refl refl refl))) close_done))) close_empty

using_here : RunAlike by_global false (program (made [] []) empty using_body) (program (made [] []) empty wrapped_body)
using_here = law_using_proof c_ (made [] []) empty using_body wrapped_body using_rows here_var refl refl refl refl refl refl refl (record { global = refl; require = refl }) refl refl

-- it means something, and so its run never ends without meaning
meant_here : is_meant by_global (program (made [] []) empty using_body) ≡ true
meant_here = refl

never_here : (n : ℕ) (this : Value) (moves : List Move) → outcome (run by_global n (program (made [] []) empty using_body) this moves) ≡ meaningless → ⊥
never_here n this moves = law_meant_proof by_global n (program (made [] []) empty using_body) refl refl this moves

-- and so do programs with destructuring, an iterator, a `switch` and a loop that declares
meant_patterns : (is_meant no_helpers object_script ≡ true) × (is_meant no_helpers array_script ≡ true)
meant_patterns = (refl, refl)

meant_loops : (is_meant no_helpers head_source ≡ true) × (is_meant no_helpers for_let ≡ true)
meant_loops = (refl, refl)

meant_scopes : (is_meant no_helpers switch_script ≡ true) × (is_meant no_helpers shadow_script ≡ true)
meant_scopes = (refl, refl)

meant_parts : (is_meant by_global using_source ≡ true) × (is_meant no_helpers spread_source ≡ true)
meant_parts = (refl, refl)

-- a mark means something in a chain alone
abbrev a_marked_member : Tree
a_marked_member = node MemberExpression (made [] (false ∷ true ∷ [])) (one (x_ (codes "a")) then one (x_ (codes "b")) then done)

meant_mark : is_meant no_helpers (program (made [] []) empty (statement (plain ChainExpression (one a_marked_member then done)) before empty)) ≡ true
meant_mark = refl

mark_unmeant : is_meant no_helpers (program (made [] []) empty (statement a_marked_member before empty)) ≡ false
mark_unmeant = refl

-- a `break` outside of what it ends means nothing
break_unmeant : is_meant no_helpers (program (made [] []) empty (plain BreakStatement (missing then done) before empty)) ≡ false
break_unmeant = refl

-- `while (t) { try { f(); } catch { g(); } }`
abbrev trying : Tree → Tree
trying h = in_while (plain TryStatement (one (block (statement (called (x_ (codes "f")) empty) before empty)) then one h then missing then done))

abbrev handler_body : Tree
handler_body = block (statement (called (x_ (codes "g")) empty) before empty)

abbrev catch_body : Trees
catch_body = trying (node CatchClause (made [] []) (missing then one handler_body then done)) before empty

abbrev caught_body : Trees
caught_body = trying (node CatchClause (made [] []) (one (identifier (codes "_u")) then one handler_body then done)) before empty

abbrev C : Take → Tree → Tree → Type 0
C = CatchRow (codes "_u")

catch_rows : CloseTrees (bad_with (codes "_u")) C body_needs catch_body caught_body
catch_rows = close_before (within refl refl refl refl refl refl refl (close_then (close_one (close_self (bad_with (codes "_u")) C (x_ (codes "t")) value_taken refl))
    (close_then (close_one (within refl refl refl refl refl refl refl (close_then (close_one (close_self (bad_with (codes "_u")) C (block (statement (called (x_ (codes "f")) empty) before empty)) value_taken refl))
    (close_then (close_one (placed (catch_row refl))) (close_then close_missing close_done))))) close_done))) close_empty

catch_here : RunAlike no_helpers false (program (made [] []) empty catch_body) (program (made [] []) empty caught_body)
catch_here = law_catch_proof no_helpers (codes "_u") (made [] []) empty catch_body caught_body catch_rows refl refl refl refl refl tt refl

-- `if (t) y = { a: b, ...d, ...e };`
abbrev two_spreads : Trees
two_spreads = property (codes "a") (x_ (codes "b")) before spread_at (made [] []) (x_ (codes "d")) before spread_at (made [] []) (x_ (codes "e")) before empty

abbrev call_label : Rattle.es_tree.specs.Tree.Label
call_label = made [] (false ∷ [])

abbrev nested_calls : Tree
nested_calls = spread_call call_label (spread_call call_label (object_at (made [] []) (property (codes "a") (x_ (codes "b")) before empty) before x_ (codes "d") before empty) before x_ (codes "e") before empty)

abbrev spread_body : Tree → Trees
spread_body e = plain IfStatement (one (x_ (codes "t")) then one (statement (assign (x_ (codes "y")) e)) then missing then done) before empty

abbrev bad_helpers : Level → Text → Bool
bad_helpers = bad_names none_hidden (only (codes "babelHelpers"))

spread_rows : CloseTrees bad_helpers SpreadRow body_needs (spread_body (object_at (made [] []) two_spreads)) (spread_body nested_calls)
spread_rows = close_before (within refl refl refl refl refl refl refl (close_then (close_one (close_self bad_helpers SpreadRow (x_ (codes "t")) value_taken refl))
    (close_then (close_one (within refl refl refl refl refl refl refl (close_then (close_one (within refl refl refl refl refl refl refl (close_then (close_one (close_self bad_helpers SpreadRow (x_ (codes "y")) (Rattle.es_statement_runs.specs.Places.target_taken) refl))
    (close_then (close_one (placed (spread_last (one_gathered call_label (made [] []) (property (codes "a") (x_ (codes "b")) before spread_at (made [] []) (x_ (codes "d")) before empty) _ (x_ (codes "e")) refl
    (begin_gathering call_label (made [] []) (made [] []) (property (codes "a") (x_ (codes "b")) before empty) (x_ (codes "d")) refl))))) close_done)))) close_done)))
    (close_then close_missing close_done)))) close_empty

spread_here : RunAlike by_global false (program (made [] []) empty (spread_body (object_at (made [] []) two_spreads))) (program (made [] []) empty (spread_body nested_calls))
spread_here = law_spread_proof (made [] []) empty _ _ spread_rows refl refl refl refl refl

-- `while (t) { y = a ** b; }` and `while (t) { z ??= y ** b; }`, the inner row first
abbrev power_tree : Tree
power_tree = node BinaryExpression (made (Some (codes "**") ∷ []) []) (one (x_ (codes "a")) then one (x_ (codes "b")) then done)

abbrev math_bad : Level → Text → Bool
math_bad = bad_names none_hidden (only (codes "Math"))

power_rows : CloseTrees math_bad PowerRow body_needs (in_while (block (statement power_tree before empty)) before empty) (in_while (block (statement (power_at (made (Some (codes "**") ∷ []) []) (x_ (codes "a")) (x_ (codes "b"))) before empty)) before empty)
power_rows = close_before (within refl refl refl refl refl refl refl (close_then (close_one (close_self math_bad PowerRow (x_ (codes "t")) value_taken refl))
    (close_then (close_one (within refl refl refl refl refl refl refl (close_then (close_statements (close_before (within refl refl refl refl refl refl refl (close_then (close_one (placed (power_row refl (λ w. refl) (λ w. refl)))) close_done)) close_empty)) close_done))) close_done))) close_empty

power_here : RunAlike no_helpers false (program (made [] []) empty (in_while (block (statement power_tree before empty)) before empty)) (program (made [] []) empty (in_while (block (statement (power_at (made (Some (codes "**") ∷ []) []) (x_ (codes "a")) (x_ (codes "b"))) before empty)) before empty))
power_here = law_power_proof (made [] []) empty _ _ power_rows refl refl refl

-- `{ a, ...r }`
abbrev rest_parts : Trees
rest_parts = node PatternProperty (made [] (true ∷ false ∷ [])) (one (identifier (codes "a")) then one (identifier (codes "a")) then done) before plain RestElement (one (identifier (codes "r")) then done) before empty

abbrev body_trees : Trees
body_trees = statement (called (x_ (codes "f")) (x_ (codes "r") before empty)) before empty

abbrev no_label : Rattle.es_tree.specs.Tree.Label
no_label = made [] []

abbrev ref_ : Text
ref_ = codes "_ref"

-- `while (t) { try { f(); } catch ({ a, ...r }) { f(r); } }`
abbrev pattern_before : Trees
pattern_before = trying (node CatchClause no_label (one (object_pattern_at no_label rest_parts) then one (block_of no_label body_trees) then done)) before empty

abbrev pattern_after : Trees
pattern_after = trying (node CatchClause no_label (one (identifier ref_) then one (block_of no_label (let_statement no_label (object_pattern_at no_label rest_parts) (identifier ref_) before block_of no_label body_trees before empty)) then done)) before empty

abbrev CP : Take → Tree → Tree → Type 0
CP = CatchPatternRow ref_

pattern_rows : CloseTrees (bad_with ref_) CP body_needs pattern_before pattern_after
pattern_rows = close_before (within refl refl refl refl refl refl refl (close_then (close_one (close_self (bad_with ref_) CP (x_ (codes "t")) value_taken refl))
    (close_then (close_one (within refl refl refl refl refl refl refl (close_then (close_one (close_self (bad_with ref_) CP (block (statement (called (x_ (codes "f")) empty) before empty)) value_taken refl))
    (close_then (close_one (placed (catch_pattern_row refl refl refl refl))) (close_then close_missing close_done))))) close_done))) close_empty

pattern_here : RunAlike no_helpers false (program no_label empty pattern_before) (program no_label empty pattern_after)
pattern_here = law_catch_pattern_proof no_helpers ref_ no_label empty _ _ pattern_rows refl refl refl refl refl tt refl

-- `while (t) { for (const { a, ...r } of e) { f(r); } }`
abbrev head_before : Trees
head_before = in_while (node ForOfStatement no_label (one (head_of (codes "const") no_label (object_pattern_at no_label rest_parts)) then one (x_ (codes "e")) then one (block_of no_label body_trees) then done)) before empty

abbrev head_after : Trees
head_after = in_while (node ForOfStatement no_label (one (head_of (codes "const") no_label (identifier ref_)) then one (x_ (codes "e")) then one (block_of no_label (declare_statement (codes "const") no_label (object_pattern_at no_label rest_parts) (identifier ref_) before block_of no_label body_trees before empty)) then done)) before empty

abbrev HR : Take → Tree → Tree → Type 0
HR = HeadRow ref_

head_moves : HeadMoves ref_ (codes "const") no_label no_label no_label rest_parts body_trees (x_ (codes "e"))
head_moves = record { pattern = refl; body = refl; names = refl; good = refl; not_using = refl; program_names = refl; math = refl; helpers = record { global = refl; require = refl }; right = refl }

head_rows : CloseTrees (bad_with ref_) HR body_needs head_before head_after
head_rows = close_before (within refl refl refl refl refl refl refl (close_then (close_one (close_self (bad_with ref_) HR (x_ (codes "t")) value_taken refl))
    (close_then (close_one (placed (of_const_row head_moves))) close_done))) close_empty

head_here : RunAlike by_global false (program no_label empty head_before) (program no_label empty head_after)
head_here = law_head_proof by_global ref_ no_label empty _ _ head_rows refl refl refl refl refl (record { global = refl; require = refl }) refl

-- `while (t) { x ||= { ...b }; }`
abbrev or_source : Tree
or_source = node AssignmentExpression (made (Some (codes "||=") ∷ []) []) (one (node Identifier (made (Some (codes "x") ∷ []) []) done) then one (object_at no_label (spread_at no_label (x_ (codes "b")) before empty)) then done)

abbrev or_target : Tree
or_target = assigned_where (made (Some (codes "||=") ∷ []) []) (codes "||=") (node Identifier (made (Some (codes "x") ∷ []) []) done) (node Identifier (made (Some (codes "x") ∷ []) []) done) (object_at no_label (spread_at no_label (x_ (codes "b")) before empty))

assign_rows : CloseTrees nothing_bad AssignRow body_needs (in_while (block (statement or_source before empty)) before empty) (in_while (block (statement or_target before empty)) before empty)
assign_rows = close_before (within refl refl refl refl refl refl refl (close_then (close_one (close_self nothing_bad AssignRow (x_ (codes "t")) value_taken refl))
    (close_then (close_one (within refl refl refl refl refl refl refl (close_then (close_statements (close_before (within refl refl refl refl refl refl refl (close_then (close_one (placed (assign_row refl refl))) close_done)) close_empty)) close_done))) close_done))) close_empty

assign_here : RunAlike by_global false (program no_label empty (in_while (block (statement or_source before empty)) before empty)) (program no_label empty (in_while (block (statement or_target before empty)) before empty))
assign_here = law_assign_proof by_global no_label empty _ _ assign_rows refl refl refl

-- `f(y); let y = a;` and `f(y); var y = a;`: the first is outside
abbrev declared_by : Text → Trees
declared_by kind = statement (called (x_ (codes "f")) (x_ (codes "y") before empty)) before node VariableDeclaration (made (Some kind ∷ []) []) (many (declarator_at no_label (made (Some (codes "y") ∷ []) []) (x_ (codes "a")) before empty) then done) before empty

abbrev LF : Rattle.es_runs.specs.Alike.Frame
LF = later (codes "y" ∷ [])

later_rows : CloseTrees nothing_bad LetRow body_needs (declared_by (codes "let")) (declared_by (codes "var"))
later_rows = close_before (close_self nothing_bad LetRow (statement (called (x_ (codes "f")) (x_ (codes "y") before empty))) body_needs refl) (close_before (placed (let_row refl refl (named_declarator refl no_declarator))) close_empty)

later_here : RunAlike no_helpers false (program no_label empty (declared_by (codes "let"))) (program no_label empty (declared_by (codes "var")))
later_here = law_later_proof (codes "y" ∷ []) no_label empty _ _ later_rows (later_declared refl none_declared) refl refl
