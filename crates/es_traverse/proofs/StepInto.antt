-- Steps of a rule are steps of each rule that holds it.
use Rattle.es_steps.specs.Open.{Open, OpenField, OpenFields, OpenTrees}
use Rattle.es_steps.specs.Steps.{Ledger, Site, Spot, Step, FieldsStep, FieldStep, TreesStep, Steps}
use Rattle.es_steps.specs.Steps.Step.{acts, inside}
use Rattle.es_steps.specs.Steps.FieldsStep.{in_first, in_later}
use Rattle.es_steps.specs.Steps.FieldStep.{in_child, in_body, in_children, in_list, in_target, in_program, acts_on_body, acts_on_list}
use Rattle.es_steps.specs.Steps.TreesStep.{in_head, in_tail, in_flanked, after_flanked, flanks, acts_on_flanked}
use Rattle.es_steps.specs.Steps.Steps.{stays, goes}
use Rattle.std.proofs.Common.{ℕ}

module _ {Q R : Site → Ledger → Spot → Ledger → Spot → Type 0} (into : (n : Site) (s s' : Ledger) (x y : Spot) → Q n s x s' y → R n s x s' y) where
  mutual
    pub step-into : {n : Site} {s s' : Ledger} {t u : Open} → Step Q n s t s' u → Step R n s t s' u
    step-into (acts t u h) = acts t u (into _ _ _ _ _ h)
    step-into (inside h) = inside (fields-into h)

    pub fields-into : {c : ℕ → Site} {s s' : Ledger} {fs gs : OpenFields} → FieldsStep Q c s fs s' gs → FieldsStep R c s fs s' gs
    fields-into (in_first h) = in_first (field-into h)
    fields-into (in_later h) = in_later (fields-into h)

    pub field-into : {n : Site} {s s' : Ledger} {f g : OpenField} → FieldStep Q n s f s' g → FieldStep R n s f s' g
    field-into (in_child h) = in_child (step-into h)
    field-into (in_children h) = in_children (trees-into h)
    field-into (in_body e x y h) = in_body e x y (step-into h)
    field-into (in_list e d h) = in_list e d (trees-into h)
    field-into (in_target e h) = in_target e (trees-into h)
    field-into (in_program e h) = in_program e (trees-into h)
    field-into (acts_on_list ts us h) = acts_on_list ts us (into _ _ _ _ _ h)
    field-into (acts_on_body t u h) = acts_on_body t u (into _ _ _ _ _ h)

    pub trees-into : {n : Site} {s s' : Ledger} {ts us : OpenTrees} → TreesStep Q n s ts s' us → TreesStep R n s ts s' us
    trees-into (in_head h) = in_head (step-into h)
    trees-into (in_tail h) = in_tail (trees-into h)
    trees-into (in_flanked h) = in_flanked (step-into h)
    trees-into (after_flanked h) = after_flanked (trees-into h)
    trees-into (flanks t u h) = flanks t u (into _ _ _ _ _ h)
    trees-into (acts_on_flanked t us h) = acts_on_flanked t us (into _ _ _ _ _ h)

pub rows-into : {X : Type 0} {S T : Ledger → X → Ledger → X → Type 0} {s s' : Ledger} {x y : X} → ((s s' : Ledger) (x y : X) → S s x s' y → T s x s' y) → Steps S s x s' y → Steps T s x s' y
rows-into f stays = stays
rows-into f (goes h r) = goes (f _ _ _ _ h) (rows-into f r)
