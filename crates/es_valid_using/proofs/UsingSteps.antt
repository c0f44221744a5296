-- Steps of the rules of `using` among those of the other lowerings, where no statement has others beside it: each is a step of one of them.
use Rattle.std.proofs.Common.{inl, inr}
use Rattle.std.specs.Prelude.{Bool, true, false}
use Rattle.es_tree.specs.declared.options.EnvOptions.{EnvOptions}
use Rattle.es_steps.specs.CoreRules.{where_on}
use Rattle.es_steps.specs.NamespaceExports.{NamespaceRule}
use Rattle.es_steps.specs.Open.{Open}
use Rattle.es_steps.specs.Rules.{either_rule}
use Rattle.es_steps.specs.Steps.{Ledger, Site, Spot, the_program, Step, Steps}
use Rattle.es_steps.specs.Steps.Spot.{at_beside, at_node, at_trees}
use Rattle.es_steps.proofs.BridgeInclusion.{all_under}
use Rattle.es_steps.proofs.FormRules.{AtNodes}
use Rattle.es_valid_steps.proofs.FurtherSteps.{alone, alone-form, alone-written, apart}
use Rattle.es_valid_steps.proofs.Spread.{spread}
use Rattle.es_valid_steps.proofs.SpreadSteps.{SameBoth, Went, spread-step}
use Rattle.es_valid_steps.proofs.SpreadSteps.Went.{moves, rests, leaves}
use Rattle.es_valid_using.specs.Laws.{with_using}

module _ (o : EnvOptions) (Q : Site → Ledger → Spot → Ledger → Spot → Type 0) where
  -- whether options ask for them or not
  abbrev pub either_way : Site → Ledger → Spot → Ledger → Spot → Type 0
  either_way = either_rule (alone o) (either_rule Q NamespaceRule)

  asked : (b : Bool) (n : Site) (s : Ledger) (x : Spot) (s' : Ledger) (y : Spot) → where_on b Q n s x s' y → Q n s x s' y
  asked true n s x s' y h = h
  asked false n s x s' y h = absurd h

  sorted : (n : Site) (s : Ledger) (x : Spot) (s' : Ledger) (y : Spot) → with_using Q o n s x s' y → either_way n s x s' y
  sorted n s x s' y (inl h) = at (apart o n s x s' y h)
    where
      at : either_rule (alone o) NamespaceRule n s x s' y → either_way n s x s' y
      at (inl r) = inl r
      at (inr r) = inr (inr r)
  sorted n s x s' y (inr h) = inr (inl (asked o.es2026.explicit_resource_management n s x s' y h))

  pub all-sorted : {s s' : Ledger} {t u : Open} → Steps (Step (with_using Q o) the_program) s t s' u → Steps (Step either_way the_program) s t s' u
  all-sorted h = all_under (with_using Q o) either_way sorted h

  -- what a step is then
  pub data StepOf (s : Ledger) (t : Open) (s' : Ledger) (u : Open) : Type 0 where
    by_other : Step (alone o) the_program s (spread t) s' (spread u) → StepOf s t s' u
    by_using : Step Q the_program s (spread t) s' (spread u) → StepOf s t s' u
    by_none : SameBoth s (spread t) s' (spread u) → StepOf s t s' u
    by_export : Step NamespaceRule the_program s t s' u → StepOf s t s' u

  module _ (only : (n : Site) (s s' : Ledger) (x y : Spot) → Q n s x s' y → AtNodes x y) where
    pub step-of : {s s' : Ledger} {t u : Open} → Step either_way the_program s t s' u → StepOf s t s' u
    step-of {s} {s'} {t} {u} h = at (spread-step (alone o) (either_rule Q NamespaceRule) (alone-form o).no_flanks (alone-written o) h)
      where
        export : Went (Step Q the_program s (spread t) s' (spread u)) (SameBoth s (spread t) s' (spread u)) (Step NamespaceRule the_program s t s' u) → StepOf s t s' u
        export (moves r) = by_using r
        export (rests e) = by_none e
        export (leaves r) = by_export r

        at : Went (Step (alone o) the_program s (spread t) s' (spread u)) (SameBoth s (spread t) s' (spread u)) (Step (either_rule Q NamespaceRule) the_program s t s' u) → StepOf s t s' u
        at (moves r) = by_other r
        at (rests e) = by_none e
        at (leaves r) = export (spread-step Q NamespaceRule (λ n a b x y bs cs q. only n a b (at_node x) (at_beside bs y cs) q) (λ n a b x bs cs us q. absurd (only n a b (at_beside bs x cs) (at_trees us) q)) r)
