-- Each rule of a lowering is lawful alone: the core rules that options ask for are together, and what a row asks of its site it asks alone.
use Rattle.std.proofs.Common.{◌∙◌, refl, ap, subst, inl, inr}
use Rattle.std.specs.Prelude.{Bool, true, false, not, ◌&&◌, List, ◌∷◌, ◌++◌, codes, is_some}
use Rattle.es_tree.specs.Ancestors.{Ancestor}
use Rattle.es_tree.specs.Tree.{Tree}
use Rattle.es_tree.specs.declared.options.EnvOptions.{EnvOptions}
use Rattle.es_runs.specs.OptionalChaining.{takes_value}
use Rattle.es_resolution.specs.Declarations.{Bound}
use Rattle.es_steps.specs.AllRules.{ObjectRule}
use Rattle.es_steps.specs.CoreRules.{RowRule, rule_under, where_on}
use Rattle.es_steps.specs.Exponentiation.{ExponentiationRule, IsMathFree}
use Rattle.es_steps.specs.Exponentiation.ExponentiationRule.{power, power_assignment}
use Rattle.es_steps.specs.LogicalAssignment.{LogicalAssignmentRule}
use Rattle.es_steps.specs.LogicalAssignment.LogicalAssignmentRule.{to_name, to_static_member, to_computed_member}
use Rattle.es_steps.specs.NullishCoalescing.{NullishCoalescingRule}
use Rattle.es_steps.specs.NullishCoalescing.NullishCoalescingRule.{with_temporary, reading_again}
use Rattle.es_steps.specs.ObjectSpread.{SpreadRule}
use Rattle.es_steps.specs.ObjectSpread.SpreadRule.{spreads}
use Rattle.es_steps.specs.OptionalCatch.{CatchRule}
use Rattle.es_steps.specs.OptionalCatch.CatchRule.{catches}
use Rattle.es_steps.specs.OptionalChaining.{OptionalChainingRule}
use Rattle.es_steps.specs.OptionalChaining.OptionalChainingRule.{by_tests, as_callee, in_delete}
use Rattle.es_steps.specs.Nodes.{assign_node, identifier, placed, sequence_node}
use Rattle.es_steps.specs.RestAssignments.{RestAssignmentRule, is_unused, value_after}
use Rattle.es_steps.specs.RestAssignments.RestAssignmentRule.{assigns}
use Rattle.es_steps.specs.Rules.{Replacing, Writing}
use Rattle.es_steps.specs.Rules.Replacing.{replaces}
use Rattle.es_steps.specs.Rules.Writing.{all_pending, body_declarators, declarators, insertions}
use Rattle.es_steps.specs.Sites.{AreAlike, IsLocal}
use Rattle.es_steps.specs.Slots.{in_open_slot, is_slot}
use Rattle.es_steps.specs.Steps.{Ledger, Site, Spot, Whole}
use Rattle.es_steps.specs.WrapRule.{WrapRule, takes_one}
use Rattle.es_steps.specs.WrapRule.WrapRule.{wraps}
use Rattle.es_steps.proofs.Catching.{catch-lawful}
use Rattle.es_steps.proofs.CoreLaws.{on-lawful, on-writes, row-lawful, row-writes-all}
use Rattle.es_steps.proofs.FormRules.{on-form}
use Rattle.es_steps.proofs.LocalRules.{both-local}
use Rattle.es_steps.proofs.RestAssignments.{assigning_rest-makes}
use Rattle.es_steps.proofs.RulesWrite.{catch-writes}
use Rattle.es_steps.proofs.Spreads.{spread-makes}
use Rattle.es_valid_steps.specs.Laws.{with_further_rules}
use Rattle.es_valid_steps.proofs.FurtherForms.{catch-form, spread-form}
use Rattle.es_valid_steps.proofs.RestAssignmentForms.{rest-assignment-form}
use Rattle.es_changes.specs.Rules.{IsLawfulRule, is_asked_for}
use Rattle.es_conditions.specs.CoreConditions.{is_in_chain}
use Rattle.es_changes.proofs.Lawful.{law_lawful_proof}
use Rattle.es_row_laws.specs.Laws.{LawLawfulRows, exponentiation_under, logical_assignment_under, nullish_coalescing_under, object_spread_under, optional_catch_under, optional_chaining_under, rest_assignment_under, writing_under}
use Rattle.es_row_laws.proofs.Fewer.{fewer-formed, fewer-lawful}

-- WHERE EACH STANDS among those that options ask for

pub writing-under : (o : EnvOptions) (n : Site) (s : Ledger) (x : Spot) (s' : Ledger) (y : Spot) → writing_under o n s x s' y → rule_under o n s x s' y
writing-under o n s x s' y (inl h) = inl h
writing-under o n s x s' y (inr h) = inr (inl h)

pub logical-assignment-under : (o : EnvOptions) (n : Site) (s : Ledger) (x : Spot) (s' : Ledger) (y : Spot) → logical_assignment_under o n s x s' y → rule_under o n s x s' y
logical-assignment-under o n s x s' y h = inr (inr (inl h))

pub nullish-coalescing-under : (o : EnvOptions) (n : Site) (s : Ledger) (x : Spot) (s' : Ledger) (y : Spot) → nullish_coalescing_under o n s x s' y → rule_under o n s x s' y
nullish-coalescing-under o n s x s' y h = inr (inr (inr (inl (inl h))))

pub optional-chaining-under : (o : EnvOptions) (n : Site) (s : Ledger) (x : Spot) (s' : Ledger) (y : Spot) → optional_chaining_under o n s x s' y → rule_under o n s x s' y
optional-chaining-under o n s x s' y h = inr (inr (inr (inl (inr h))))

pub exponentiation-under : (o : EnvOptions) (n : Site) (s : Ledger) (x : Spot) (s' : Ledger) (y : Spot) → exponentiation_under o n s x s' y → rule_under o n s x s' y
exponentiation-under o n s x s' y h = inr (inr (inr (inr h)))

-- Object spread stands among the further rules, which ask nothing of slots: it takes no temporary.
spread-anywhere : (n : Site) (s : Ledger) (x : Spot) (s' : Ledger) (y : Spot) → RowRule SpreadRule n s x s' y → Replacing SpreadRule n s x s' y
spread-anywhere n s x s' y (replaces bs h) = replaces bs h.rule

among-objects : (b : Bool) {R : Site → Ledger → Spot → Ledger → Spot → Type 0} → ((n : Site) (s : Ledger) (x : Spot) (s' : Ledger) (y : Spot) → R n s x s' y → ObjectRule n s x s' y) → (n : Site) (s : Ledger) (x : Spot) (s' : Ledger) (y : Spot) → where_on b R n s x s' y → where_on b ObjectRule n s x s' y
among-objects true among n s x s' y h = among n s x s' y h
among-objects false among n s x s' y h = h

pub object-spread-under : (o : EnvOptions) (n : Site) (s : Ledger) (x : Spot) (s' : Ledger) (y : Spot) → object_spread_under o n s x s' y → with_further_rules o n s x s' y
object-spread-under o n s x s' y h = inr (inr (inr (among-objects (is_some o.es2018.object_rest_spread) (λ n s x s' y r. inl (spread-anywhere n s x s' y r)) n s x s' y h.0)))

pub rest-assignment-under : (o : EnvOptions) (n : Site) (s : Ledger) (x : Spot) (s' : Ledger) (y : Spot) → rest_assignment_under o n s x s' y → with_further_rules o n s x s' y
rest-assignment-under o n s x s' y h = inr (inr (inr (among-objects (is_some o.es2018.object_rest_spread) (λ n s x s' y r. inr r) n s x s' y h)))

-- WHAT A ROW ASKS OF ITS SITE

abbrev RowIsLocal : (Site → Whole → List Bound → Tree → Tree → Type 0) → Type 0
RowIsLocal R = (n m : Site) (w : Whole) (bs : List Bound) (t u : Tree) → AreAlike is_asked_for n m → R n w bs t u → R m w bs t u

row-local : (R : Site → Whole → List Bound → Tree → Tree → Type 0) → RowIsLocal R → IsLocal (λ s. is_asked_for) (RowRule R)
row-local R r n m s s' x y a (replaces {w = w} {t = t} {u = u} bs h) = replaces bs (record { rule = r n m w bs t u a h.rule; outside = (λ i. takes_one bs && in_open_slot (a.above i)) ∙ h.outside })

on-local : (b : Bool) (R : Site → Ledger → Spot → Ledger → Spot → Type 0) → IsLocal (λ s. is_asked_for) R → IsLocal (λ s. is_asked_for) (where_on b R)
on-local true R r = r
on-local false R r = λ n m s s' x y a h. absurd h

assigning-local : RowIsLocal LogicalAssignmentRule
assigning-local n m w bs t u a (to_name e1 e2 e3 e4) = to_name e1 e2 e3 e4
assigning-local n m w bs t u a (to_static_member e1 e2 e3 e4 e5 d) = to_static_member e1 e2 e3 e4 e5 d
assigning-local n m w bs t u a (to_computed_member e1 e2 e3 e4 e5 d1 d2) = to_computed_member e1 e2 e3 e4 e5 d1 d2

coalescing-local : RowIsLocal NullishCoalescingRule
coalescing-local n m w bs t u a (with_temporary e1 e2 d) = with_temporary e1 e2 d
coalescing-local n m w bs t u a (reading_again e1 e2) = reading_again e1 e2

chaining-local : (no_all : Bool) → RowIsLocal (OptionalChainingRule no_all)
chaining-local no_all n m w bs t u a (by_tests e d h) = by_tests (ap (λ z. takes_value z.level) a.need ∙ e) d h
chaining-local no_all n m w bs t u a (as_callee e d h b) = as_callee (ap (λ z. z.level) a.need ∙ e) d h b
chaining-local no_all n m w bs t u a (in_delete e1 e2 e3 d h) = in_delete e1 e2 e3 d h

math-free : (n m : Site) (w : Whole) → AreAlike is_asked_for n m → IsMathFree n w → IsMathFree m w
math-free n m w a f = record { unbound = a.scope (codes "Math") refl ∙ f.unbound; in_use = f.in_use }

raising-local : RowIsLocal ExponentiationRule
raising-local n m w bs t u a (power f e1 e2 e3) = power (math-free n m w a f) e1 e2 e3
raising-local n m w bs t u a (power_assignment f e1 e2 e3 d) = power_assignment (math-free n m w a f) e1 e2 e3 d

writing-local : IsLocal (λ s. is_asked_for) Writing
writing-local n m s s' x y a declarators = declarators
writing-local n m s s' x y a all_pending = all_pending
writing-local n m s s' x y a body_declarators = body_declarators
writing-local n m s s' x y a insertions = insertions

wrap-local : (o : EnvOptions) → IsLocal (λ s. is_asked_for) (WrapRule o)
wrap-local o n m s s' x y a (wraps r e slot h) = wraps (a.role ∙ r) e (ap is_slot a.above ∙ slot) h

catch-local : IsLocal (λ s. is_asked_for) CatchRule
catch-local n m s s' x y a (catches fresh) = catches fresh

spreading-local : RowIsLocal SpreadRule
spreading-local n m w bs t u a (spreads unbound used some quiet h) = spreads (a.scope (codes "babelHelpers") refl ∙ unbound) used some quiet h

assigning-rest-local : RowIsLocal RestAssignmentRule
assigning-rest-local n m w bs t u a (assigns {m = l} {e = e} {x = x} {xs = xs} {us = us} unbound used texts silent next takes) =
    subst (λ (up : List Ancestor). RestAssignmentRule m w (x ∷ xs) t (placed l (sequence_node (assign_node (identifier x) e ∷ us ++ value_after (is_unused up) x)))) a.above
    (assigns (a.scope (codes "babelHelpers") refl ∙ unbound) used texts silent next takes)

-- THE LAWS

pub writing-lawful : (o : EnvOptions) → IsLawfulRule (writing_under o)
writing-lawful o = fewer-lawful (writing-under o) (law_lawful_proof o) (both-local (λ s. is_asked_for) writing-local (wrap-local o))

pub logical-assignment-lawful : (o : EnvOptions) → IsLawfulRule (logical_assignment_under o)
logical-assignment-lawful o = fewer-lawful (logical-assignment-under o) (law_lawful_proof o) (on-local o.es2021.logical_assignment_operators (RowRule LogicalAssignmentRule) (row-local LogicalAssignmentRule assigning-local))

pub nullish-coalescing-lawful : (o : EnvOptions) → IsLawfulRule (nullish_coalescing_under o)
nullish-coalescing-lawful o = fewer-lawful (nullish-coalescing-under o) (law_lawful_proof o) (on-local o.es2020.nullish_coalescing_operator (RowRule NullishCoalescingRule) (row-local NullishCoalescingRule coalescing-local))

pub optional-chaining-lawful : (o : EnvOptions) → IsLawfulRule (optional_chaining_under o)
optional-chaining-lawful o =
    let row = OptionalChainingRule o.assumptions.no_document_all in
    fewer-lawful (optional-chaining-under o) (law_lawful_proof o) (on-local o.es2020.optional_chaining (RowRule row) (row-local row (chaining-local o.assumptions.no_document_all)))

pub exponentiation-lawful : (o : EnvOptions) → IsLawfulRule (exponentiation_under o)
exponentiation-lawful o = fewer-lawful (exponentiation-under o) (law_lawful_proof o) (on-local o.es2016.exponentiation_operator (RowRule ExponentiationRule) (row-local ExponentiationRule raising-local))

pub optional-catch-lawful : (o : EnvOptions) → IsLawfulRule (optional_catch_under o)
optional-catch-lawful o =
    let on = o.es2019.optional_catch_binding in
    record { names = on-lawful on CatchRule catch-lawful; writes = on-writes on CatchRule catch-writes; form = on-form on CatchRule catch-form; local = on-local on CatchRule catch-local }

spread-row-lawful : (o : EnvOptions) → IsLawfulRule (where_on (is_some o.es2018.object_rest_spread) (RowRule SpreadRule))
spread-row-lawful o =
    let on = is_some o.es2018.object_rest_spread in
    let R = RowRule SpreadRule in
    record {
      names = on-lawful on R (row-lawful SpreadRule spread-makes);
      writes = on-writes on R (row-writes-all SpreadRule spread-makes);
      form = on-form on R (fewer-formed spread-anywhere spread-form);
      local = on-local on R (row-local SpreadRule spreading-local);
    }

-- and fewer where no chain may stand around
spread-row : (o : EnvOptions) (n : Site) (s : Ledger) (x : Spot) (s' : Ledger) (y : Spot) → object_spread_under o n s x s' y → where_on (is_some o.es2018.object_rest_spread) (RowRule SpreadRule) n s x s' y
spread-row o n s x s' y h = h.0

past-local : (o : EnvOptions) → IsLocal (λ s. is_asked_for) (object_spread_under o)
past-local o n m s s' x y a h = ((spread-row-lawful o).local n m s s' x y a h.0, ap (λ (up : List Ancestor). not (o.es2020.optional_chaining && is_in_chain up)) a.above ∙ h.1)

pub object-spread-lawful : (o : EnvOptions) → IsLawfulRule (object_spread_under o)
object-spread-lawful o = fewer-lawful (spread-row o) (spread-row-lawful o) (past-local o)

pub rest-assignment-lawful : (o : EnvOptions) → IsLawfulRule (rest_assignment_under o)
rest-assignment-lawful o =
    let on = is_some o.es2018.object_rest_spread in
    let R = RowRule RestAssignmentRule in
    record {
      names = on-lawful on R (row-lawful RestAssignmentRule assigning_rest-makes);
      writes = on-writes on R (row-writes-all RestAssignmentRule assigning_rest-makes);
      form = on-form on R rest-assignment-form;
      local = on-local on R (row-local RestAssignmentRule assigning-rest-local);
    }

pub law_lawful_rows_proof : LawLawfulRows
law_lawful_rows_proof o = record {
  writing = writing-lawful o;
  logical_assignment = logical-assignment-lawful o;
  nullish_coalescing = nullish-coalescing-lawful o;
  optional_chaining = optional-chaining-lawful o;
  exponentiation = exponentiation-lawful o;
  optional_catch = optional-catch-lawful o;
  object_spread = object-spread-lawful o;
  rest_assignment = rest-assignment-lawful o;
}
