-- Steps by names of a rule are steps of each rule that holds wherever it does, and the rules that options ask for are core rules.
use Rattle.std.proofs.Common.{ℕ, inl, inr, List}
use Rattle.std.specs.Prelude.{Bool, true, false}
use Rattle.es_tree.specs.Tree.{Tree}
use Rattle.es_tree.specs.Words.{Text}
use Rattle.es_tree.specs.declared.options.EnvOptions.{EnvOptions}
use Rattle.es_runs.specs.Alike.{Need}
use Rattle.es_runs.specs.Open.{Open, OpenFields, OpenField, OpenTrees}
use Rattle.es_runs.specs.OpenRules.{CoreRule, OpenExponentiation, OpenLogicalAssignment, OpenNullishCoalescing, OpenOptionalChaining, rule_under, where_on}
use Rattle.es_runs.specs.OpenSteps.{Ledger, Spot, Step, FieldsStep, FieldStep, TreesStep, Steps, Reached}
use Rattle.es_runs.specs.OpenSteps.Step.{acts, inside}
use Rattle.es_runs.specs.OpenSteps.FieldsStep.{in_first, in_later}
use Rattle.es_runs.specs.OpenSteps.FieldStep.{in_child, in_children, within, acts_on_list}
use Rattle.es_runs.specs.OpenSteps.TreesStep.{in_head, in_tail}
use Rattle.es_runs.specs.OpenSteps.Steps.{stays, goes}

module _ (R Q : Need → Ledger → Spot → Ledger → Spot → Type 0) (under : (n : Need) (s : Ledger) (x : Spot) (s' : Ledger) (y : Spot) → R n s x s' y → Q n s x s' y) where
  mutual
    step-under : {n : Need} {s s' : Ledger} {o u : Open} → Step R n s o s' u → Step Q n s o s' u
    step-under (acts t u r) = acts t u (under _ _ _ _ _ r)
    step-under (inside r) = inside (fields-under r)

    fields-under : {c : ℕ → Need} {s s' : Ledger} {fs gs : OpenFields} → FieldsStep R c s fs s' gs → FieldsStep Q c s fs s' gs
    fields-under (in_first r) = in_first (field-under r)
    fields-under (in_later r) = in_later (fields-under r)

    field-under : {n : Need} {s s' : Ledger} {f g : OpenField} → FieldStep R n s f s' g → FieldStep Q n s f s' g
    field-under (in_child r) = in_child (step-under r)
    field-under (in_children r) = in_children (trees-under r)
    field-under (within r) = within (trees-under r)
    field-under (acts_on_list ts us r) = acts_on_list ts us (under _ _ _ _ _ r)

    trees-under : {n : Need} {s s' : Ledger} {ts us : OpenTrees} → TreesStep R n s ts s' us → TreesStep Q n s ts s' us
    trees-under (in_head r) = in_head (step-under r)
    trees-under (in_tail r) = in_tail (trees-under r)

  all-under : {n : Need} {s s' : Ledger} {o u : Open} → Steps (Step R n) s o s' u → Steps (Step Q n) s o s' u
  all-under stays = stays
  all-under (goes r rest) = goes (step-under r) (all-under rest)

on-rule : (b : Bool) (R : Need → Ledger → Spot → Ledger → Spot → Type 0) (n : Need) (s : Ledger) (x : Spot) (s' : Ledger) (y : Spot) → where_on b R n s x s' y → R n s x s' y
on-rule true R n s x s' y r = r
on-rule false R n s x s' y r = absurd r

rule-core : (o : EnvOptions) (n : Need) (s : Ledger) (x : Spot) (s' : Ledger) (y : Spot) → rule_under o n s x s' y → CoreRule o.assumptions.no_document_all n s x s' y
rule-core o n s x s' y (inl r) = inl r
rule-core o n s x s' y (inr (inl r)) = inr (inl (on-rule o.es2021.logical_assignment_operators OpenLogicalAssignment n s x s' y r))
rule-core o n s x s' y (inr (inr (inl (inl r)))) = inr (inr (inl (inl (on-rule o.es2020.nullish_coalescing_operator OpenNullishCoalescing n s x s' y r))))
rule-core o n s x s' y (inr (inr (inl (inr r)))) = inr (inr (inl (inr (on-rule o.es2020.optional_chaining (OpenOptionalChaining o.assumptions.no_document_all) n s x s' y r))))
rule-core o n s x s' y (inr (inr (inr r))) = inr (inr (inr (on-rule o.es2016.exponentiation_operator OpenExponentiation n s x s' y r)))

-- what the rules that options ask for reach is reached by the core rules
pub reached-core : (o : EnvOptions) (p q : Tree) (names : List Text) → Reached (rule_under o) p names q → Reached (CoreRule o.assumptions.no_document_all) p names q
reached-core o p q names h = record { whole = h.whole; steps = all-under (rule_under o) (CoreRule o.assumptions.no_document_all) (rule-core o) h.steps; made = h.made; others = h.others }
