-- The kinds of nodes on which the rows of core programs act, and of those that they put there.
use Rattle.std.proofs.Common.{◌≡◌, refl, inl, inr, List, [], ◌∷◌}
use Rattle.std.specs.Prelude.{Bool, true, false}
use Rattle.es_tree.specs.Words.{Text}
use Rattle.es_tree.specs.Tree.{Tree, Label, kind_of, fields_of}
use Rattle.es_tree.specs.declared.ast_type.AstType.{AstType}
use Rattle.es_tree.specs.declared.ast_type.AstType.TheVariants.{AssignmentExpression, CallExpression, ConditionalExpression, LogicalExpression, SequenceExpression}
use Rattle.es_runs.specs.Alike.{Need}
use Rattle.es_runs.specs.Duplication.{has_no_fields}
use Rattle.es_runs.specs.Exponentiation.{ExponentiationRule, assigned_power}
use Rattle.es_runs.specs.Exponentiation.ExponentiationRule.{power, power_assignment}
use Rattle.es_runs.specs.LogicalAssignment.{LogicalAssignmentRule}
use Rattle.es_runs.specs.LogicalAssignment.LogicalAssignmentRule.{to_name, to_static_member, to_computed_member}
use Rattle.es_runs.specs.OpenRules.exponentiation_rule.{raises}
use Rattle.es_runs.specs.OpenSteps.{Whole}
use Rattle.es_runs.specs.OptionalChaining.{OptionalChainingRule, delete_node, has_tests, true_node, where_short}
use Rattle.es_runs.specs.OptionalChaining.OptionalChainingRule.{by_tests, as_callee, in_delete}
use Rattle.es_runs.specs.Rules.{void_zero_node}
use Rattle.es_runs.specs.NullishCoalescing.{NullishCoalescingRule}
use Rattle.es_runs.specs.NullishCoalescing.NullishCoalescingRule.{with_temporary, reading_again}
use Rattle.es_runs.proofs.CoreRows.{core_rule}
use Rattle.es_runs.proofs.RowFacts.{is_row_kind}

-- the kinds of nodes that a row leaves in the place of the one on which it acts
abbrev pub is_left_kind : AstType → Bool
is_left_kind AssignmentExpression = true
is_left_kind CallExpression = true
is_left_kind ConditionalExpression = true
is_left_kind LogicalExpression = true
is_left_kind SequenceExpression = true
is_left_kind _ = false

-- a row acts on an operator with its operands, on a chain, or on what deletes one
pub record RowKinds (a b : Tree) : Type 0 where
  pub acted : is_row_kind (kind_of a) ≡ true
  pub parts : has_no_fields (fields_of a) ≡ false
  pub left : is_left_kind (kind_of b) ≡ true

assigned_kind : (m : Label) (fs : List Tree) (target read r : Tree) → is_left_kind (kind_of (assigned_power m fs target read r)) ≡ true
assigned_kind m [] target read r = refl
assigned_kind m (f ∷ fs) target read r = refl

nullish_coalescing_kinds : {steady in_use : Text → Bool} {xs : List Text} {n : Need} {a b : Tree} → NullishCoalescingRule steady in_use xs n a b → RowKinds a b
nullish_coalescing_kinds (with_temporary texts again fresh) = record { acted = refl; parts = refl; left = refl }
nullish_coalescing_kinds (reading_again texts again) = record { acted = refl; parts = refl; left = refl }

logical_assignment_kinds : {steady in_use : Text → Bool} {xs : List Text} {n : Need} {a b : Tree} → LogicalAssignmentRule steady in_use xs n a b → RowKinds a b
logical_assignment_kinds (to_name texts op target) = record { acted = refl; parts = refl; left = refl }
logical_assignment_kinds (to_static_member texts op target flags object) = record { acted = refl; parts = refl; left = refl }
logical_assignment_kinds (to_computed_member texts op target flags object key) = record { acted = refl; parts = refl; left = refl }

exponentiation_kinds : {bound in_use : Text → Bool} {xs : List Text} {n : Need} {a b : Tree} → ExponentiationRule bound in_use xs n a b → RowKinds a b
exponentiation_kinds (power texts left right) = record { acted = refl; parts = refl; left = refl }
exponentiation_kinds (power_assignment {m = m} {r = r} {target = target} {read = read} {fs = fs} texts right twice) = record { acted = refl; parts = refl; left = assigned_kind m fs target read r }

-- where there are tests a conditional is left
short_kind : (m : Label) (ts : List Tree) (short long : Tree) → has_tests ts ≡ true → is_left_kind (kind_of (where_short m ts short long)) ≡ true
short_kind m [] short long h = absurd (cc h)
short_kind m (t ∷ ts) short long h = refl

optional_chaining_kinds : {no_all : Bool} {bound steady in_use : Text → Bool} {xs : List Text} {n : Need} {a b : Tree} → OptionalChainingRule no_all bound steady in_use xs n a b → RowKinds a b
optional_chaining_kinds (by_tests {m = m} {w = w} level walked tested) = record { acted = refl; parts = refl; left = short_kind m w.tests void_zero_node w.current tested }
optional_chaining_kinds (as_callee {m = m} {d = d} {w = w} level walked tested callee) = record { acted = refl; parts = refl; left = short_kind m w.tests void_zero_node d tested }
optional_chaining_kinds (in_delete {m = m} {w = w} texts inner walked tested) = record { acted = refl; parts = refl; left = short_kind m w.tests true_node (delete_node w.current) tested }

pub row_kind : (no_all : Bool) (w : Whole) {xs : List Text} {n : Need} {a b : Tree} → core_rule no_all w xs n a b → RowKinds a b
row_kind no_all w (inl r) = logical_assignment_kinds r
row_kind no_all w (inr (inl (inl r))) = nullish_coalescing_kinds r
row_kind no_all w (inr (inl (inr r))) = optional_chaining_kinds r
row_kind no_all w (inr (inr (raises math r))) = exponentiation_kinds r
