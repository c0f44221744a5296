-- A step of one of two rules is a step of one of them, and a step of writing leaves what is finished.
use Rattle.std.proofs.Common.{inl, inr, ℕ}
use Rattle.std.specs.Prelude.{◌⊎◌}
use Rattle.es_steps.specs.Open.{Open, OpenField, OpenFields, OpenTrees}
use Rattle.es_steps.specs.Rules.{either_rule}
use Rattle.es_steps.specs.Steps.{FieldStep, FieldsStep, Ledger, Site, Spot, Step, TreesStep}
use Rattle.es_steps.specs.Steps.Step.{acts, inside}
use Rattle.es_steps.specs.Steps.FieldsStep.{in_first, in_later}
use Rattle.es_steps.specs.Steps.FieldStep.{acts_on_body, acts_on_list, in_body, in_child, in_children, in_list, in_program, in_target}
use Rattle.es_steps.specs.Steps.TreesStep.{acts_on_flanked, after_flanked, flanks, in_flanked, in_head, in_tail}

pub map-either : {A B C D : Type 0} → (A → C) → (B → D) → A ⊎ B → C ⊎ D
map-either f g (inl a) = inl (f a)
map-either f g (inr b) = inr (g b)

module _ (Q R : Site → Ledger → Spot → Ledger → Spot → Type 0) where
  mutual
    pub step-either : {n : Site} {s s' : Ledger} {t u : Open} → Step (either_rule Q R) n s t s' u → Step Q n s t s' u ⊎ Step R n s t s' u
    step-either (acts t u (inl h)) = inl (acts t u h)
    step-either (acts t u (inr h)) = inr (acts t u h)
    step-either (inside h) = map-either (λ r. inside r) (λ r. inside r) (fields-either h)

    fields-either : {c : ℕ → Site} {s s' : Ledger} {fs gs : OpenFields} → FieldsStep (either_rule Q R) c s fs s' gs → FieldsStep Q c s fs s' gs ⊎ FieldsStep R c s fs s' gs
    fields-either (in_first h) = map-either (λ r. in_first r) (λ r. in_first r) (field-either h)
    fields-either (in_later h) = map-either (λ r. in_later r) (λ r. in_later r) (fields-either h)

    field-either : {n : Site} {s s' : Ledger} {f g : OpenField} → FieldStep (either_rule Q R) n s f s' g → FieldStep Q n s f s' g ⊎ FieldStep R n s f s' g
    field-either (in_child h) = map-either (λ r. in_child r) (λ r. in_child r) (step-either h)
    field-either (in_children h) = map-either (λ r. in_children r) (λ r. in_children r) (trees-either h)
    field-either (in_body e y y' h) = map-either (λ r. in_body e y y' r) (λ r. in_body e y y' r) (step-either h)
    field-either (in_list e e' h) = map-either (λ r. in_list e e' r) (λ r. in_list e e' r) (trees-either h)
    field-either (in_target e h) = map-either (λ r. in_target e r) (λ r. in_target e r) (trees-either h)
    field-either (in_program e h) = map-either (λ r. in_program e r) (λ r. in_program e r) (trees-either h)
    field-either (acts_on_list ts us (inl h)) = inl (acts_on_list ts us h)
    field-either (acts_on_list ts us (inr h)) = inr (acts_on_list ts us h)
    field-either (acts_on_body t u (inl h)) = inl (acts_on_body t u h)
    field-either (acts_on_body t u (inr h)) = inr (acts_on_body t u h)

    trees-either : {n : Site} {s s' : Ledger} {ts us : OpenTrees} → TreesStep (either_rule Q R) n s ts s' us → TreesStep Q n s ts s' us ⊎ TreesStep R n s ts s' us
    trees-either (in_head h) = map-either (λ r. in_head r) (λ r. in_head r) (step-either h)
    trees-either (in_tail h) = map-either (λ r. in_tail r) (λ r. in_tail r) (trees-either h)
    trees-either (in_flanked h) = map-either (λ r. in_flanked r) (λ r. in_flanked r) (step-either h)
    trees-either (after_flanked h) = map-either (λ r. after_flanked r) (λ r. after_flanked r) (trees-either h)
    trees-either (flanks t u (inl h)) = inl (flanks t u h)
    trees-either (flanks t u (inr h)) = inr (flanks t u h)
    trees-either (acts_on_flanked t us (inl h)) = inl (acts_on_flanked t us h)
    trees-either (acts_on_flanked t us (inr h)) = inr (acts_on_flanked t us h)
