-- The laws of rows over whatever operands at some programs, so that it is seen that their premises can be met.
use Rattle.std.proofs.Common.{◌≡◌, refl, []}
use Rattle.std.specs.Prelude.{Bool, true, false, ◌∷◌, Some, codes}
use Rattle.es_tree.specs.Words.{Text}
use Rattle.es_tree.specs.declared.ast_type.AstType.TheVariants.{ArrayExpression, ArrayTarget, AssignmentExpression, ChainExpression, MemberExpression, SpreadElement, ThisExpression, WhileStatement, SwitchCase, SwitchStatement}
use Rattle.es_tree.specs.Tree.{Tree, Label, node, done, ◌then◌, one, Trees, empty, ◌before◌, many, statements}
use Rattle.es_runs.specs.Alike.{Level, bad_names}
use Rattle.es_runs.specs.Duplication.IsDuplicated.{read_again}
use Rattle.es_runs.specs.Exponentiation.{assigned_power}
use Rattle.es_runs.specs.Exponentiation.ExponentiationRule.{power_assignment}
use Rattle.es_runs.specs.Exponentiation.TargetTwice.{bound_name}
use Rattle.es_runs.specs.LogicalAssignment.{assigned_where}
use Rattle.es_runs.specs.LogicalAssignment.LogicalAssignmentRule.{to_static_member}
use Rattle.es_runs.specs.OptionalChaining.{has_tests, where_short, null_checks, member_at}
use Rattle.es_runs.specs.OptionalChaining.OptionalChainingRule.{by_tests}
use Rattle.es_runs.specs.OptionalChaining.Walked.{base, marked_member}
use Rattle.es_runs.specs.OptionalChaining.Continued.{same_spine}
use Rattle.es_runs.specs.OptionalChaining.Tested.{as_name}
use Rattle.es_runs.specs.Rules.{member_node, void_zero_node}
use Rattle.es_runs.specs.Runs.{identifier, made, none_hidden, only, program}
use Rattle.es_statement_runs.specs.Helpers.Supply.{no_helpers}
use Rattle.es_statement_runs.specs.Laws.{RowsOver, among_names, assigning, body_needs, chaining, raising}
use Rattle.es_statement_runs.specs.Laws.RowOver.{row_over}
use Rattle.es_statement_runs.specs.Places.{CloseTrees, value_taken}
use Rattle.es_statement_runs.specs.Places.Close.{placed, within}
use Rattle.es_statement_runs.specs.Places.CloseFields.{close_done, close_then}
use Rattle.es_statement_runs.specs.Places.CloseField.{close_one, close_statements, close_many}
use Rattle.es_statement_runs.specs.Places.CloseTrees.{close_empty, close_before}
use Rattle.es_statement_runs.specs.Places.InScope.{below_scope, below_switch}
use Rattle.es_statement_runs.specs.Runs.{RunAlike}
use Rattle.es_statement_runs.proofs.Everywhere.{close_self}
use Rattle.es_statement_runs.proofs.Examples.{plain, x_, statement, block, declaration}
use Rattle.es_statement_runs.proofs.OperandRows.{law_chain_proof, law_exponentiation_proof, law_logical_assignment_proof}

abbrev bare : Label
bare = made [] []

abbrev a_ : Tree
a_ = identifier (codes "a")

-- `[...c]`, and `[d] = c`
abbrev spread_list : Tree
spread_list = node ArrayExpression bare (one (node SpreadElement bare (one (x_ (codes "c")) then done)) then done)

abbrev to_pattern : Tree
to_pattern = node AssignmentExpression (made (Some (codes "=") ∷ []) []) (one (node ArrayTarget bare (one (identifier (codes "d")) then done)) then one (x_ (codes "c")) then done)

-- `while (t) { let a = z; e; }`
abbrev looping : Tree → Trees
looping e = plain WhileStatement (one (x_ (codes "t")) then one (block (declaration (codes "let") (codes "a") (x_ (codes "z")) before statement e before empty)) then done) before empty

abbrev no_bad : Level → Text → Bool
no_bad = bad_names (among_names []) none_hidden

abbrev no_math : Level → Text → Bool
no_math = bad_names (among_names []) (only (codes "Math"))

-- `a?.[[...c]]`
abbrev marked_at : Label
marked_at = made [] (true ∷ true ∷ [])

abbrev chain_source : Tree
chain_source = node ChainExpression bare (one (node MemberExpression marked_at (one a_ then one spread_list then done)) then done)

-- with two strict tests, or with a loose one
abbrev chain_target : Bool → Tree
chain_target no_all = where_short bare (null_checks no_all a_ a_) void_zero_node (member_at marked_at true a_ spread_list)

some_tests : (no_all : Bool) → has_tests (null_checks no_all a_ a_) ≡ true
some_tests true = refl
some_tests false = refl

chain_rows : (no_all : Bool) → CloseTrees no_bad (RowsOver no_bad (chaining no_all) [] 1 []) body_needs (looping chain_source) (looping (chain_target no_all))
chain_rows no_all = close_before
    (within refl refl refl refl refl refl refl (close_then (close_one (close_self no_bad _ (x_ (codes "t")) value_taken refl)) (close_then (close_one
    (placed (below_scope refl refl refl refl refl refl refl refl (close_then (close_statements (close_before (close_self no_bad _ (declaration (codes "let") (codes "a") (x_ (codes "z"))) value_taken refl) (close_before (within refl refl refl refl refl refl refl (close_then (close_one
    (placed (row_over (only (codes "a")) none_hidden none_hidden (by_tests refl (marked_member refl (same_spine refl (base refl)) (as_name refl refl)) (some_tests no_all), refl) (λ y e. rw e refl) (λ y e. absurd (cc e)) (λ y e. absurd (cc e)) refl refl refl))) close_done)) close_empty))) close_done)))) close_done)))
    close_empty

chain_here : RunAlike no_helpers false (program bare empty (looping chain_source)) (program bare empty (looping (chain_target false)))
chain_here = law_chain_proof false [] 1 bare empty _ _ (chain_rows false) refl refl refl refl (λ y e. refl) (λ y e. absurd (cc e))

loose_here : RunAlike no_helpers true (program bare empty (looping chain_source)) (program bare empty (looping (chain_target true)))
loose_here = law_chain_proof true [] 1 bare empty _ _ (chain_rows true) refl refl refl refl (λ y e. refl) (λ y e. absurd (cc e))

-- `switch (t) { case k: let a = z; e; }`
abbrev switching : Tree → Trees
switching e = plain SwitchStatement (one (x_ (codes "t")) then many (plain SwitchCase (one (x_ (codes "k")) then statements (declaration (codes "let") (codes "a") (x_ (codes "z")) before statement e before empty) then done) before empty) then done) before empty

switch_rows : CloseTrees no_bad (RowsOver no_bad (chaining false) [] 1 []) body_needs (switching chain_source) (switching (chain_target false))
switch_rows = close_before
    (placed (below_switch refl refl refl refl refl (close_one (close_self no_bad _ (x_ (codes "t")) value_taken refl)) (close_then (close_many (close_before (within refl refl refl refl refl refl refl (close_then (close_one (close_self no_bad _ (x_ (codes "k")) value_taken refl)) (close_then
    (close_statements (close_before (close_self no_bad _ (declaration (codes "let") (codes "a") (x_ (codes "z"))) value_taken refl) (close_before (within refl refl refl refl refl refl refl (close_then (close_one
    (placed (row_over (only (codes "a")) none_hidden none_hidden (by_tests refl (marked_member refl (same_spine refl (base refl)) (as_name refl refl)) refl, refl) (λ y e. rw e refl) (λ y e. absurd (cc e)) (λ y e. absurd (cc e)) refl refl refl))) close_done)) close_empty))) close_done))) close_empty)) close_done)))
    close_empty

switch_here : RunAlike no_helpers false (program bare empty (switching chain_source)) (program bare empty (switching (chain_target false)))
switch_here = law_chain_proof false [] 1 bare empty _ _ switch_rows refl refl refl refl (λ y e. refl) (λ y e. absurd (cc e))

-- `this.p ||= [d] = c`
abbrev this_ : Tree
this_ = node ThisExpression bare done

abbrev assigned_at : Label
assigned_at = made (Some (codes "||=") ∷ []) []

abbrev assignment_source : Tree
assignment_source = node AssignmentExpression assigned_at (one (node MemberExpression (made [] (false ∷ false ∷ [])) (one this_ then one (identifier (codes "p")) then done)) then one to_pattern then done)

abbrev assignment_target : Tree
assignment_target = assigned_where assigned_at (codes "||=") (member_node false this_ (identifier (codes "p"))) (member_node false this_ (identifier (codes "p"))) to_pattern

assignment_rows : CloseTrees no_bad (RowsOver no_bad assigning [] 0 []) body_needs (statement assignment_source before empty) (statement assignment_target before empty)
assignment_rows = close_before (within refl refl refl refl refl refl refl (close_then (close_one
    (placed (row_over none_hidden none_hidden none_hidden (to_static_member refl refl refl refl (read_again refl)) (λ y e. absurd (cc e)) (λ y e. absurd (cc e)) (λ y e. absurd (cc e)) refl refl refl))) close_done)) close_empty

assignment_here : RunAlike no_helpers false (program bare empty (statement assignment_source before empty)) (program bare empty (statement assignment_target before empty))
assignment_here = law_logical_assignment_proof [] 0 bare empty _ _ assignment_rows refl refl refl refl (λ y e. refl) (λ y e. absurd (cc e))

-- `a **= [...c]`
abbrev raised_at : Label
raised_at = made (Some (codes "**=") ∷ []) []

abbrev power_source : Tree
power_source = node AssignmentExpression raised_at (one a_ then one spread_list then done)

abbrev power_target : Tree
power_target = assigned_power raised_at [] a_ a_ spread_list

power_rows : CloseTrees no_math (RowsOver no_math raising [] 1 []) body_needs (looping power_source) (looping power_target)
power_rows = close_before
    (within refl refl refl refl refl refl refl (close_then (close_one (close_self no_math _ (x_ (codes "t")) value_taken refl)) (close_then (close_one
    (placed (below_scope refl refl refl refl refl refl refl refl (close_then (close_statements (close_before (close_self no_math _ (declaration (codes "let") (codes "a") (x_ (codes "z"))) value_taken refl) (close_before (within refl refl refl refl refl refl refl (close_then (close_one
    (placed (row_over (only (codes "a")) none_hidden none_hidden (power_assignment refl refl (bound_name refl), refl) (λ y e. rw e refl) (λ y e. absurd (cc e)) (λ y e. absurd (cc e)) refl refl refl))) close_done)) close_empty))) close_done)))) close_done)))
    close_empty

power_here : RunAlike no_helpers false (program bare empty (looping power_source)) (program bare empty (looping power_target))
power_here = law_exponentiation_proof [] 1 bare empty _ _ power_rows refl refl refl refl (λ y e. refl) (λ y e. refl)
