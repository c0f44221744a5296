-- A step of one of two rules is a step of the first or of the second.
use Rattle.std.proofs.Common.{ℕ, inl, inr}
use Rattle.std.specs.Prelude.{◌⊎◌}
use Rattle.es_steps.specs.Open.{Open, OpenFields, OpenField, OpenTrees}
use Rattle.es_steps.specs.Rules.{either_rule}
use Rattle.es_steps.specs.Steps.{Ledger, Site, Spot, Step, FieldsStep, FieldStep, TreesStep}
use Rattle.es_steps.specs.Steps.Step.{acts, inside}
use Rattle.es_steps.specs.Steps.FieldsStep.{in_first, in_later}
use Rattle.es_steps.specs.Steps.FieldStep.{in_child, in_children, in_body, in_list, in_target, in_program, acts_on_list, acts_on_body}
use Rattle.es_steps.specs.Steps.TreesStep.{in_head, in_tail, in_flanked, after_flanked, flanks, acts_on_flanked}

either : {A B C D : Type 0} → (A → C) → (B → D) → A ⊎ B → C ⊎ D
either f g (inl a) = inl (f a)
either f g (inr b) = inr (g b)

module _ (Q N : Site → Ledger → Spot → Ledger → Spot → Type 0) where
  mutual
    pub one-of : {n : Site} {s s' : Ledger} {t u : Open} → Step (either_rule Q N) n s t s' u → Step Q n s t s' u ⊎ Step N n s t s' u
    one-of (acts t u r) = either (λ q. acts t u q) (λ q. acts t u q) r
    one-of (inside r) = either (λ q. inside q) (λ q. inside q) (of-fields r)

    of-fields : {c : ℕ → Site} {s s' : Ledger} {fs gs : OpenFields} → FieldsStep (either_rule Q N) c s fs s' gs → FieldsStep Q c s fs s' gs ⊎ FieldsStep N c s fs s' gs
    of-fields (in_first r) = either (λ q. in_first q) (λ q. in_first q) (of-field r)
    of-fields (in_later r) = either (λ q. in_later q) (λ q. in_later q) (of-fields r)

    of-field : {n : Site} {s s' : Ledger} {f g : OpenField} → FieldStep (either_rule Q N) n s f s' g → FieldStep Q n s f s' g ⊎ FieldStep N n s f s' g
    of-field (in_child r) = either (λ q. in_child q) (λ q. in_child q) (one-of r)
    of-field (in_children r) = either (λ q. in_children q) (λ q. in_children q) (of-trees r)
    of-field (in_body a b c r) = either (λ q. in_body a b c q) (λ q. in_body a b c q) (one-of r)
    of-field (in_list a b r) = either (λ q. in_list a b q) (λ q. in_list a b q) (of-trees r)
    of-field (in_target a r) = either (λ q. in_target a q) (λ q. in_target a q) (of-trees r)
    of-field (in_program a r) = either (λ q. in_program a q) (λ q. in_program a q) (of-trees r)
    of-field (acts_on_list ts us r) = either (λ q. acts_on_list ts us q) (λ q. acts_on_list ts us q) r
    of-field (acts_on_body t u r) = either (λ q. acts_on_body t u q) (λ q. acts_on_body t u q) r

    of-trees : {n : Site} {s s' : Ledger} {ts us : OpenTrees} → TreesStep (either_rule Q N) n s ts s' us → TreesStep Q n s ts s' us ⊎ TreesStep N n s ts s' us
    of-trees (in_head r) = either (λ q. in_head q) (λ q. in_head q) (one-of r)
    of-trees (in_tail r) = either (λ q. in_tail q) (λ q. in_tail q) (of-trees r)
    of-trees (in_flanked r) = either (λ q. in_flanked q) (λ q. in_flanked q) (one-of r)
    of-trees (after_flanked r) = either (λ q. after_flanked q) (λ q. after_flanked q) (of-trees r)
    of-trees (flanks t u r) = either (λ q. flanks t u q) (λ q. flanks t u q) r
    of-trees (acts_on_flanked t us r) = either (λ q. acts_on_flanked t us q) (λ q. acts_on_flanked t us q) r
