-- What the visit and the walk over arrows do is in order: where chains are lowered, no spread is while a chain stands around it.
use Rattle.std.proofs.Common.{◌≡◌, refl, inl, inr, List}
use Rattle.std.specs.Prelude.{◌||◌, Bool, true, false, is_some}
use Rattle.es_tree.specs.Tree.{Tree, node}
use Rattle.es_tree.specs.Words.{Text}
use Rattle.es_tree.specs.declared.ast_type.AstType.TheVariants.{ObjectExpression}
use Rattle.es_tree.specs.declared.options.EnvOptions.{EnvOptions}
use Rattle.es_resolution.specs.Declarations.{Bound}
use Rattle.es_steps.specs.Arrows.{ArrowRule}
use Rattle.es_steps.specs.Arrows.ArrowRule.{by_name, by_new_name, with_body, with_expression}
use Rattle.es_steps.specs.CoreBridge.{Reached}
use Rattle.es_steps.specs.CoreRules.{RowRule, where_on}
use Rattle.es_steps.specs.Exponentiation.{ExponentiationRule}
use Rattle.es_steps.specs.Exponentiation.ExponentiationRule.{power, power_assignment}
use Rattle.es_steps.specs.LogicalAssignment.{LogicalAssignmentRule}
use Rattle.es_steps.specs.LogicalAssignment.LogicalAssignmentRule.{to_computed_member, to_name, to_static_member}
use Rattle.es_steps.specs.NamespaceExports.{NamespaceRule}
use Rattle.es_steps.specs.NamespaceExports.NamespaceRule.{exports}
use Rattle.es_steps.specs.NullishCoalescing.{NullishCoalescingRule}
use Rattle.es_steps.specs.NullishCoalescing.NullishCoalescingRule.{reading_again, with_temporary}
use Rattle.es_steps.specs.OptionalCatch.{CatchRule}
use Rattle.es_steps.specs.OptionalCatch.CatchRule.{catches}
use Rattle.es_steps.specs.OptionalChaining.{OptionalChainingRule}
use Rattle.es_steps.specs.OptionalChaining.OptionalChainingRule.{as_callee, by_tests, in_delete}
use Rattle.es_steps.specs.RestAssignments.{RestAssignmentRule}
use Rattle.es_steps.specs.RestAssignments.RestAssignmentRule.{assigns}
use Rattle.es_steps.specs.Rules.{Writing}
use Rattle.es_steps.specs.Rules.Replacing.{replaces}
use Rattle.es_steps.specs.Rules.Writing.{all_pending, body_declarators, declarators, insertions}
use Rattle.es_steps.specs.Slots.{is_slot}
use Rattle.es_steps.specs.Steps.{Ledger, Site, Spot, Whole}
use Rattle.es_steps.specs.Steps.Spot.{at_node}
use Rattle.es_steps.specs.WrapRule.{WrapRule}
use Rattle.es_steps.specs.WrapRule.WrapRule.{wraps}
use Rattle.es_steps.proofs.BridgeInclusion.{all_under}
use Rattle.es_conditions.specs.CoreConditions.{is_past_chains}
use Rattle.es_traverse.specs.Laws.{whole_rule}
use Rattle.es_reached.specs.Reached.{built_rules}
use Rattle.es_statement_steps.specs.Orders.{in_order, is_in_order}
use Rattle.lower_driver.specs.Visits.{visit_ending, visit_profile}

-- RULES that act at other nodes than object literals

abbrev pub Ordered : (Site → Ledger → Spot → Ledger → Spot → Type 0) → Type 0
Ordered R = (o : EnvOptions) (n : Site) (s : Ledger) (x : Spot) (s' : Ledger) (y : Spot) → R n s x s' y → is_in_order o n x ≡ true

abbrev OrderedRow : (Site → Whole → List Bound → Tree → Tree → Type 0) → Type 0
OrderedRow R = (o : EnvOptions) (n : Site) (w : Whole) (bs : List Bound) (t u : Tree) → R n w bs t u → is_in_order o n (at_node t) ≡ true

on-order : (b : Bool) (R : Site → Ledger → Spot → Ledger → Spot → Type 0) → Ordered R → Ordered (where_on b R)
on-order true R h = h
on-order false R h = λ o n s x s' y r. absurd r

row-order : (R : Site → Whole → List Bound → Tree → Tree → Type 0) → OrderedRow R → Ordered (RowRule R)
row-order R h o n s _ s' _ (replaces {w = w} {t = t} {u = u} bs r) = h o n w bs t u r.rule

assigning-order : OrderedRow LogicalAssignmentRule
assigning-order o n w bs t u (to_name e1 e2 e3 e4) = refl
assigning-order o n w bs t u (to_static_member e1 e2 e3 e4 e5 d) = refl
assigning-order o n w bs t u (to_computed_member e1 e2 e3 e4 e5 d1 d2) = refl

coalescing-order : OrderedRow NullishCoalescingRule
coalescing-order o n w bs t u (with_temporary e1 e2 d) = refl
coalescing-order o n w bs t u (reading_again e1 e2) = refl

chaining-order : (no_all : Bool) → OrderedRow (OptionalChainingRule no_all)
chaining-order no_all o n w bs t u (by_tests e d h) = refl
chaining-order no_all o n w bs t u (as_callee e d h b) = refl
chaining-order no_all o n w bs t u (in_delete e1 e2 e3 d h) = refl

raising-order : OrderedRow ExponentiationRule
raising-order o n w bs t u (power f e1 e2 e3) = refl
raising-order o n w bs t u (power_assignment f e1 e2 e3 d) = refl

rest-order : OrderedRow RestAssignmentRule
rest-order o n w bs t u (assigns e1 e2 e3 d e4 h) = refl

catch-order : Ordered CatchRule
catch-order o n s x s' y (catches fresh) = refl

namespace-order : Ordered NamespaceRule
namespace-order o n s x s' y (exports top fresh e d none) = refl

pub writing-order : Ordered Writing
writing-order o n s x s' y declarators = refl
writing-order o n s x s' y all_pending = refl
writing-order o n s x s' y body_declarators = refl
writing-order o n s x s' y insertions = refl

pub arrow-order : Ordered ArrowRule
arrow-order o n s x s' y (by_name role belongs reaches found used low) = refl
arrow-order o n s x s' y (by_new_name role belongs reaches fresh) = refl
arrow-order o n s x s' y (with_body none) = refl
arrow-order o n s x s' y (with_expression e none) = refl

-- SLOTS, and literals around which no chain stands

either-first : (a b : Bool) → a ≡ true → (a || b) ≡ true
either-first true b e = refl
either-first false b e = absurd (cc e)

either-second : (a b : Bool) → b ≡ true → (a || b) ≡ true
either-second true b e = refl
either-second false b e = e

slot-order : (o : EnvOptions) (n : Site) (t : Tree) → is_slot n.above ≡ true → is_in_order o n (at_node t) ≡ true
slot-order o n (node ObjectExpression l fs) e = either-first (is_slot n.above) (is_past_chains o n) e
slot-order o n (node _ l fs) e = refl

wrap-order : (c : EnvOptions) → Ordered (WrapRule c)
wrap-order c o n s _ s' y (wraps {e = e} role expression slot h) = slot-order o n e slot

past-order : (o : EnvOptions) (n : Site) (x : Spot) → is_past_chains o n ≡ true → is_in_order o n x ≡ true
past-order o n (at_node (node ObjectExpression l fs)) e = either-second (is_slot n.above) (is_past_chains o n) e
past-order o n (at_node (node _ l fs)) e = refl
past-order o n _ e = refl

-- THE VISIT, and what is done after the program

visit-order : (o : EnvOptions) (n : Site) (s : Ledger) (x : Spot) (s' : Ledger) (y : Spot) → (visit_profile o).rule n s x s' y → is_in_order o n x ≡ true
visit-order o n s x s' y (inl (inl w)) = writing-order o n s x s' y w
visit-order o n s x s' y (inl (inr w)) = wrap-order o o n s x s' y w
visit-order o n s x s' y (inr (inl a)) = on-order o.es2021.logical_assignment_operators (RowRule LogicalAssignmentRule) (row-order LogicalAssignmentRule assigning-order) o n s x s' y a
visit-order o n s x s' y (inr (inr (inl (inl (inl b))))) = on-order o.es2020.nullish_coalescing_operator (RowRule NullishCoalescingRule) (row-order NullishCoalescingRule coalescing-order) o n s x s' y b
visit-order o n s x s' y (inr (inr (inl (inl (inr b))))) =
    on-order o.es2020.optional_chaining (RowRule (OptionalChainingRule o.assumptions.no_document_all)) (row-order (OptionalChainingRule o.assumptions.no_document_all) (chaining-order o.assumptions.no_document_all)) o n s x s' y b
visit-order o n s x s' y (inr (inr (inl (inr never)))) = absurd never
visit-order o n s x s' y (inr (inr (inr (inl c)))) = on-order o.es2019.optional_catch_binding CatchRule catch-order o n s x s' y c
visit-order o n s x s' y (inr (inr (inr (inr (inl (inl r)))))) = past-order o n x r.1
visit-order o n s x s' y (inr (inr (inr (inr (inl (inr r)))))) = on-order (is_some o.es2018.object_rest_spread) (RowRule RestAssignmentRule) (row-order RestAssignmentRule rest-order) o n s x s' y r
visit-order o n s x s' y (inr (inr (inr (inr (inr p))))) = on-order o.es2016.exponentiation_operator (RowRule ExponentiationRule) (row-order ExponentiationRule raising-order) o n s x s' y p

pub whole-order : (o : EnvOptions) (n : Site) (s : Ledger) (x : Spot) (s' : Ledger) (y : Spot) → whole_rule (visit_profile o) (visit_ending o) n s x s' y → is_in_order o n x ≡ true
whole-order o n s x s' y (inl r) = visit-order o n s x s' y r
whole-order o n s x s' y (inr (inl never)) = absurd never
whole-order o n s x s' y (inr (inr (inl never))) = absurd never
whole-order o n s x s' y (inr (inr (inr (inl (inl (inl never)))))) = absurd never
whole-order o n s x s' y (inr (inr (inr (inl (inl (inr never)))))) = absurd never
whole-order o n s x s' y (inr (inr (inr (inl (inr (inl e)))))) = on-order o.es2020.export_namespace_from NamespaceRule namespace-order o n s x s' y e
whole-order o n s x s' y (inr (inr (inr (inl (inr (inr w)))))) = writing-order o n s x s' y w
whole-order o n s x s' y (inr (inr (inr (inr (inl never))))) = absurd never
whole-order o n s x s' y (inr (inr (inr (inr (inr (inl (inl never))))))) = absurd never
whole-order o n s x s' y (inr (inr (inr (inr (inr (inl (inr never))))))) = absurd never
whole-order o n s x s' y (inr (inr (inr (inr (inr (inr never)))))) = absurd never

-- What steps in order reach steps of the built rules do.
abbrev pub anyhow : (o : EnvOptions) (p q : Tree) (w : Whole) (names : List Text) → Reached (in_order o) p w names q → Reached (built_rules o) p w names q
anyhow o p q w names h = record { whole = h.whole; steps = all_under (in_order o) (built_rules o) (λ n s x s' y r. r.0) h.steps; made = h.made }
