-- Steps of a rule are steps of each rule that holds wherever it does.
use Rattle.std.proofs.Common.{ℕ}
use Rattle.es_steps.specs.Open.{Open, OpenFields, OpenField, OpenTrees}
use Rattle.es_steps.specs.Steps.{Ledger, Site, Spot, Step, FieldsStep, FieldStep, TreesStep, Steps}
use Rattle.es_steps.specs.Steps.Step.{acts, inside}
use Rattle.es_steps.specs.Steps.FieldsStep.{in_first, in_later}
use Rattle.es_steps.specs.Steps.FieldStep.{in_child, in_children, in_body, in_list, in_target, in_program, acts_on_list, acts_on_body}
use Rattle.es_steps.specs.Steps.TreesStep.{in_head, in_tail, in_flanked, after_flanked, flanks, acts_on_flanked}
use Rattle.es_steps.specs.Steps.Steps.{stays, goes}

module _ (R Q : Site → Ledger → Spot → Ledger → Spot → Type 0) (under : (n : Site) (s : Ledger) (x : Spot) (s' : Ledger) (y : Spot) → R n s x s' y → Q n s x s' y) where
  mutual
    pub step_under : {n : Site} {s s' : Ledger} {o u : Open} → Step R n s o s' u → Step Q n s o s' u
    step_under (acts t u r) = acts t u (under _ _ _ _ _ r)
    step_under (inside r) = inside (fields_under r)

    fields_under : {c : ℕ → Site} {s s' : Ledger} {fs gs : OpenFields} → FieldsStep R c s fs s' gs → FieldsStep Q c s fs s' gs
    fields_under (in_first r) = in_first (field_under r)
    fields_under (in_later r) = in_later (fields_under r)

    field_under : {n : Site} {s s' : Ledger} {f g : OpenField} → FieldStep R n s f s' g → FieldStep Q n s f s' g
    field_under (in_child r) = in_child (step_under r)
    field_under (in_children r) = in_children (trees_under r)
    field_under (in_body a b c r) = in_body a b c (step_under r)
    field_under (in_list a b r) = in_list a b (trees_under r)
    field_under (in_target a r) = in_target a (trees_under r)
    field_under (in_program a r) = in_program a (trees_under r)
    field_under (acts_on_list ts us r) = acts_on_list ts us (under _ _ _ _ _ r)
    field_under (acts_on_body t u r) = acts_on_body t u (under _ _ _ _ _ r)

    trees_under : {n : Site} {s s' : Ledger} {ts us : OpenTrees} → TreesStep R n s ts s' us → TreesStep Q n s ts s' us
    trees_under (in_head r) = in_head (step_under r)
    trees_under (in_tail r) = in_tail (trees_under r)
    trees_under (in_flanked r) = in_flanked (step_under r)
    trees_under (after_flanked r) = after_flanked (trees_under r)
    trees_under (flanks t u r) = flanks t u (under _ _ _ _ _ r)
    trees_under (acts_on_flanked t us r) = acts_on_flanked t us (under _ _ _ _ _ r)

  pub all_under : {n : Site} {s s' : Ledger} {o u : Open} → Steps (Step R n) s o s' u → Steps (Step Q n) s o s' u
  all_under stays = stays
  all_under (goes r rest) = goes (step_under r) (all_under rest)
