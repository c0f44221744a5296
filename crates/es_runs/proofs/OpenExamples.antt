-- `a.b ?? c`, lowered by two steps: `var _a$b; (_a$b = a.b) !== null && _a$b !== void 0 ? _a$b : c`.
use Rattle.std.proofs.Common.{refl, inl, inr, List, [], ◌∷◌, arith}
use Rattle.std.specs.Prelude.{Bool, false, Some, codes}
use Rattle.es_tree.specs.Words.{Text}
use Rattle.es_tree.specs.Fresh.{node_base, IsFreshName}
use Rattle.es_tree.specs.Tree.{Tree, node, Label, done, ◌then◌, one, empty, ◌before◌}
use Rattle.es_tree.specs.declared.ast_type.AstType.TheVariants.{Program, ExpressionStatement, LogicalExpression}
use Rattle.es_runs.specs.Alike.{all_of_it}
use Rattle.es_runs.specs.Runs.{made, identifier, program, var_statement}
use Rattle.es_runs.specs.Rules.{member_node, tested_by}
use Rattle.es_runs.specs.NullishCoalescing.NullishCoalescingRule.{with_temporary}
use Rattle.es_runs.specs.Open.{nothing_pending, with_vars, Open, opened, opened_trees}
use Rattle.es_runs.specs.Open.Open.{open_node}
use Rattle.es_runs.specs.Open.OpenFields.{ends, ◌and◌}
use Rattle.es_runs.specs.Open.OpenField.{children, list}
use Rattle.es_runs.specs.Open.OpenTrees.{nil}
use Rattle.es_runs.specs.OpenSteps.{Whole, Step, Reached, whole_of}
use Rattle.es_runs.specs.OpenSteps.Ledger.{ledger}
use Rattle.es_runs.specs.OpenSteps.Step.{acts, inside}
use Rattle.es_runs.specs.OpenSteps.FieldsStep.{in_first, in_later}
use Rattle.es_runs.specs.OpenSteps.FieldStep.{in_child, within, acts_on_list}
use Rattle.es_runs.specs.OpenSteps.TreesStep.{in_head}
use Rattle.es_runs.specs.OpenSteps.Steps.{stays, goes}
use Rattle.es_runs.specs.OpenRules.{with_names, CoreRule}
use Rattle.es_runs.specs.OpenRules.Replacing.{replaces}
use Rattle.es_runs.specs.OpenRules.Writing.{writes}

abbrev operator : Label
operator = made (Some (codes "??") ∷ []) []

abbrev a-b : Tree
a-b = member_node false (identifier (codes "a")) (identifier (codes "b"))

abbrev coalescing : Tree
coalescing = node LogicalExpression operator (one a-b then (one (identifier (codes "c")) then done))

abbrev conditional : Tree
conditional = tested_by operator (codes "_a$b") a-b (identifier (codes "c"))

abbrev statement : Tree → Tree
statement e = node ExpressionStatement (made [] []) (one e then done)

abbrev source : Tree
source = program (made [] []) empty (statement coalescing before empty)

abbrev lowered : Tree
lowered = program (made [] []) empty (var_statement (codes "_a$b") before statement conditional before empty)

abbrev names : List Text
names = codes "_a$b" ∷ []

abbrev after : Whole
after = with_names names (whole_of source)

-- `_a$b` is the first name for `a.b`
fresh : IsFreshName (whole_of source).in_use (node_base a-b) (codes "_a$b")
fresh = record { number = 0; name = refl; free = refl; first = λ m h. absurd (omega arith) }

-- the conditional stands, and its temporary is pending
abbrev between : Open
between = open_node Program (made [] []) (children nil and (list (with_vars names nothing_pending) (opened_trees (statement conditional before empty)) and ends))

coalesced : (no_all : Bool) → Step (CoreRule no_all) all_of_it (ledger (whole_of source) nothing_pending) (opened source) (ledger after nothing_pending) between
coalesced no_all = inside (in_later (in_first (within (in_head (inside (in_first (in_child (acts coalescing conditional (inr (inr (inl (inl (replaces names (with_temporary refl refl fresh))))))))))))))

declares : (no_all : Bool) → Step (CoreRule no_all) all_of_it (ledger after nothing_pending) between (ledger after nothing_pending) (opened lowered)
declares no_all = inside (in_later (in_first (acts_on_list (statement conditional before empty) (var_statement (codes "_a$b") before statement conditional before empty) (inl writes))))

lowered_reached : (no_all : Bool) → Reached (CoreRule no_all) source names lowered
lowered_reached no_all = record { whole = after; steps = goes (coalesced no_all) (goes (declares no_all) stays); made = refl; others = refl }
