-- The built rules that put no statement beside another, but for that of rests in assignments, of which no law of runs speaks.
use Rattle.std.proofs.Common.{inl, inr}
use Rattle.std.specs.Prelude.{Bool, true, false, is_some}
use Rattle.es_tree.specs.declared.options.EnvOptions.{EnvOptions}
use Rattle.es_steps.specs.CoreRules.{RowRule, rule_under, where_on}
use Rattle.es_steps.specs.ObjectSpread.{SpreadRule}
use Rattle.es_steps.specs.OptionalCatch.{CatchRule}
use Rattle.es_steps.specs.RestAssignments.{RestAssignmentRule}
use Rattle.es_steps.specs.Rules.{Replacing, either_rule}
use Rattle.es_steps.specs.Steps.{Ledger, Site, Spot}
use Rattle.es_steps.proofs.FormRules.{FormLawful, both-form, on-form, rule-under-form}
use Rattle.es_valid_steps.proofs.FurtherForms.{catch-form, spread-form}
use Rattle.es_valid_steps.proofs.FurtherSteps.{alone as all_alone}

abbrev pub alone : EnvOptions → Site → Ledger → Spot → Ledger → Spot → Type 0
alone o = either_rule (rule_under o) (either_rule (where_on o.es2019.optional_catch_binding CatchRule) (where_on (is_some o.es2018.object_rest_spread) (Replacing SpreadRule)))

-- that one
abbrev pub assigned_rests : EnvOptions → Site → Ledger → Spot → Ledger → Spot → Type 0
assigned_rests o = where_on (is_some o.es2018.object_rest_spread) (RowRule RestAssignmentRule)

-- with it they are all
objects-told : (b : Bool) (n : Site) (s : Ledger) (x : Spot) (s' : Ledger) (y : Spot) → where_on b (either_rule (Replacing SpreadRule) (RowRule RestAssignmentRule)) n s x s' y → either_rule (where_on b (Replacing SpreadRule)) (where_on b (RowRule RestAssignmentRule)) n s x s' y
objects-told true n s x s' y r = r
objects-told false n s x s' y r = absurd r

pub told-assigned : (o : EnvOptions) (n : Site) (s : Ledger) (x : Spot) (s' : Ledger) (y : Spot) → all_alone o n s x s' y → either_rule (alone o) (assigned_rests o) n s x s' y
told-assigned o n s x s' y (inl r) = inl (inl r)
told-assigned o n s x s' y (inr (inl r)) = inl (inr (inl r))
told-assigned o n s x s' y (inr (inr r)) = at (objects-told (is_some o.es2018.object_rest_spread) n s x s' y r)
  where
    at : either_rule (where_on (is_some o.es2018.object_rest_spread) (Replacing SpreadRule)) (assigned_rests o) n s x s' y → either_rule (alone o) (assigned_rests o) n s x s' y
    at (inl q) = inl (inr (inr q))
    at (inr q) = inr q

objects-spread : (b : Bool) (n : Site) (s : Ledger) (x : Spot) (s' : Ledger) (y : Spot) → where_on b (Replacing SpreadRule) n s x s' y → where_on b (either_rule (Replacing SpreadRule) (RowRule RestAssignmentRule)) n s x s' y
objects-spread true n s x s' y r = inl r
objects-spread false n s x s' y r = absurd r

pub among-all : (o : EnvOptions) (n : Site) (s : Ledger) (x : Spot) (s' : Ledger) (y : Spot) → alone o n s x s' y → all_alone o n s x s' y
among-all o n s x s' y (inl r) = inl r
among-all o n s x s' y (inr (inl r)) = inr (inl r)
among-all o n s x s' y (inr (inr r)) = inr (inr (objects-spread (is_some o.es2018.object_rest_spread) n s x s' y r))

pub alone-form : (o : EnvOptions) → FormLawful (alone o)
alone-form o = both-form (rule-under-form o) (both-form (on-form o.es2019.optional_catch_binding _ catch-form) (on-form (is_some o.es2018.object_rest_spread) _ spread-form))
