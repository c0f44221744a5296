-- Where a program assigns to no object rest, no step of the built rules takes one.
use Rattle.std.proofs.Common.{inl, inr}
use Rattle.std.specs.Prelude.{◌⊎◌, Bool, is_some}
use Rattle.es_tree.specs.Tree.{Tree}
use Rattle.es_tree.specs.declared.options.EnvOptions.{EnvOptions}
use Rattle.es_steps.specs.CoreRules.{RowRule}
use Rattle.es_steps.specs.Open.{Open, finished}
use Rattle.es_steps.specs.RestAssignments.{RestAssignmentRule}
use Rattle.es_steps.specs.Rules.{either_rule}
use Rattle.es_steps.specs.Steps.{Ledger, Site, Spot, Step, the_program}
use Rattle.es_steps.proofs.BridgeInclusion.{step_under}
use Rattle.es_steps.proofs.FormOpen.{IsProper}
use Rattle.es_valid_steps.proofs.FurtherSteps.{alone as all_alone}
use Rattle.es_statement_steps.specs.Laws.{AssignsNoRest}
use Rattle.es_statement_steps.specs.Orders.{only_where}
use Rattle.es_statement_steps.proofs.Absent.{Absent, no-rest, not-there}
use Rattle.es_statement_steps.proofs.AloneRules.{alone, assigned_rests, told-assigned}
use Rattle.es_statement_steps.proofs.StepSplits.{step-either}
use Rattle.es_statement_steps.proofs.Tamed.{Class}

module _ (o : EnvOptions) (p : Tree) (lacks : AssignsNoRest o p) (at : Site → Spot → Bool) where
  told-there : (n : Site) (s : Ledger) (x : Spot) (s' : Ledger) (y : Spot) → only_where at (all_alone o) n s x s' y → either_rule (only_where at (alone o)) (assigned_rests o) n s x s' y
  told-there n s x s' y h = by-rule (told-assigned o n s x s' y h.0)
    where
      by-rule : either_rule (alone o) (assigned_rests o) n s x s' y → either_rule (only_where at (alone o)) (assigned_rests o) n s x s' y
      by-rule (inl r) = inl (r, h.1)
      by-rule (inr r) = inr r

  pub rests-apart : {s s' : Ledger} {x y : Open} → Step (only_where at (all_alone o)) the_program s x s' y → IsProper x → Class (finished x) → Absent p (finished x) → Step (only_where at (alone o)) the_program s x s' y
  rests-apart {s = s} {s' = s'} {x = x} {y = y} h proper class a = told (step-either (only_where at (alone o)) (assigned_rests o) (step_under (only_where at (all_alone o)) (either_rule (only_where at (alone o)) (assigned_rests o)) told-there h))
    where
      told : Step (only_where at (alone o)) the_program s x s' y ⊎ Step (assigned_rests o) the_program s x s' y → Step (only_where at (alone o)) the_program s x s' y
      told (inl r) = r
      told (inr r) = absurd (not-there (is_some o.es2018.object_rest_spread) _ p (RowRule RestAssignmentRule) lacks (no-rest p) s s' x y r proper class a)
