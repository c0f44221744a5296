-- A rule that holds nowhere takes no step.
use Rattle.std.proofs.Common.{◌≡◌, ℕ}
use Rattle.std.specs.Prelude.{Bool, true, false}
use Rattle.es_steps.specs.CoreRules.{where_on}
use Rattle.es_steps.specs.Open.{Open, OpenField, OpenFields, OpenTrees}
use Rattle.es_steps.specs.Steps.{FieldStep, FieldsStep, Ledger, Site, Spot, Step, TreesStep, the_program}
use Rattle.es_steps.specs.Steps.Step.{acts, inside}
use Rattle.es_steps.specs.Steps.FieldsStep.{in_first, in_later}
use Rattle.es_steps.specs.Steps.FieldStep.{acts_on_body, acts_on_list, in_body, in_child, in_children, in_list, in_program, in_target}
use Rattle.es_steps.specs.Steps.TreesStep.{acts_on_flanked, after_flanked, flanks, in_flanked, in_head, in_tail}
use Rattle.es_steps.proofs.BridgeInclusion.{step_under}

mutual
  nowhere : {n : Site} {s s' : Ledger} {t u : Open} → Step (λ n s x s' y. ⊥) n s t s' u → ⊥
  nowhere (acts t u h) = h
  nowhere (inside h) = nowhere-in h

  nowhere-in : {c : ℕ → Site} {s s' : Ledger} {fs gs : OpenFields} → FieldsStep (λ n s x s' y. ⊥) c s fs s' gs → ⊥
  nowhere-in (in_first h) = nowhere-by h
  nowhere-in (in_later h) = nowhere-in h

  nowhere-by : {n : Site} {s s' : Ledger} {f g : OpenField} → FieldStep (λ n s x s' y. ⊥) n s f s' g → ⊥
  nowhere-by (in_child h) = nowhere h
  nowhere-by (in_children h) = nowhere-all h
  nowhere-by (in_body e y y' h) = nowhere h
  nowhere-by (in_list e e' h) = nowhere-all h
  nowhere-by (in_target e h) = nowhere-all h
  nowhere-by (in_program e h) = nowhere-all h
  nowhere-by (acts_on_list ts us h) = h
  nowhere-by (acts_on_body t u h) = h

  nowhere-all : {n : Site} {s s' : Ledger} {ts us : OpenTrees} → TreesStep (λ n s x s' y. ⊥) n s ts s' us → ⊥
  nowhere-all (in_head h) = nowhere h
  nowhere-all (in_tail h) = nowhere-all h
  nowhere-all (in_flanked h) = nowhere h
  nowhere-all (after_flanked h) = nowhere-all h
  nowhere-all (flanks t u h) = h
  nowhere-all (acts_on_flanked t us h) = h

pub never-step : (R : Site → Ledger → Spot → Ledger → Spot → Type 0) → ((n : Site) (s : Ledger) (x : Spot) (s' : Ledger) (y : Spot) → R n s x s' y → ⊥) → {s s' : Ledger} {x y : Open} → Step R the_program s x s' y → ⊥
never-step R none h = nowhere (step_under R (λ n s x s' y. ⊥) none h)

-- a rule that is off holds nowhere
off-rule : (b : Bool) (R : Site → Ledger → Spot → Ledger → Spot → Type 0) → b ≡ false → (n : Site) (s : Ledger) (x : Spot) (s' : Ledger) (y : Spot) → where_on b R n s x s' y → ⊥
off-rule true R e n s x s' y h = absurd (cc e)
off-rule false R e n s x s' y h = h

pub off-step : (b : Bool) (R : Site → Ledger → Spot → Ledger → Spot → Type 0) → b ≡ false → {s s' : Ledger} {x y : Open} → Step (where_on b R) the_program s x s' y → ⊥
off-step b R e h = never-step (where_on b R) (off-rule b R e) h
