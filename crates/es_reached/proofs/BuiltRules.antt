-- The built rules are among all rules; where arrows aren't lowered they are those of the other lowerings, and those of arrows act at nodes.
use Rattle.std.proofs.Common.{◌≡◌, inl, inr, subst}
use Rattle.std.specs.Prelude.{Bool, true, false, is_some}
use Rattle.es_tree.specs.declared.options.EnvOptions.{EnvOptions}
use Rattle.es_steps.specs.AllRules.{AllRules, ObjectRule, RestRule}
use Rattle.es_steps.specs.Arrows.{ArrowRule}
use Rattle.es_steps.specs.Arrows.ArrowRule.{by_name, by_new_name, with_body, with_expression}
use Rattle.es_steps.specs.CoreRules.{where_on}
use Rattle.es_steps.specs.Rules.{either_rule}
use Rattle.es_steps.specs.Steps.{Ledger, Site, Spot}
use Rattle.es_steps.proofs.FormRules.{AtNodes}
use Rattle.es_valid_steps.specs.Laws.{with_further_rules}
use Rattle.es_reached.specs.Reached.{built_rules}

on-objects : (b : Bool) (n : Site) (s : Ledger) (x : Spot) (s' : Ledger) (y : Spot) → where_on b ObjectRule n s x s' y → where_on b (either_rule ObjectRule RestRule) n s x s' y
on-objects true n s x s' y r = inl r
on-objects false n s x s' y r = absurd r

pub built-all : (o : EnvOptions) (n : Site) (s : Ledger) (x : Spot) (s' : Ledger) (y : Spot) → built_rules o n s x s' y → AllRules o n s x s' y
built-all o n s x s' y (inl (inl r)) = inl r
built-all o n s x s' y (inl (inr (inl r))) = inr (inl r)
built-all o n s x s' y (inl (inr (inr (inl r)))) = inr (inr (inl r))
built-all o n s x s' y (inl (inr (inr (inr r)))) = inr (inr (inr (inl (on-objects (is_some o.es2018.object_rest_spread) n s x s' y r))))
built-all o n s x s' y (inr r) = inr (inr (inr (inr (inr r))))

pub arrows-off : (o : EnvOptions) → is_some o.es2015.arrow_function ≡ false → (n : Site) (s : Ledger) (x : Spot) (s' : Ledger) (y : Spot) → built_rules o n s x s' y → with_further_rules o n s x s' y
arrows-off o e n s x s' y (inl r) = r
arrows-off o e n s x s' y (inr r) = absurd (subst (λ (b : Bool). where_on b ArrowRule n s x s' y) e r)

-- an arrow rule, where it is asked for, acts at nodes
pub arrow-rule : (o : EnvOptions) (n : Site) (s : Ledger) (x : Spot) (s' : Ledger) (y : Spot) → where_on (is_some o.es2015.arrow_function) ArrowRule n s x s' y → ArrowRule n s x s' y
arrow-rule o n s x s' y r = at (is_some o.es2015.arrow_function) r
  where
    at : (b : Bool) → where_on b ArrowRule n s x s' y → ArrowRule n s x s' y
    at true r = r
    at false r = absurd r

pub arrow-nodes : (n : Site) (s s' : Ledger) (x y : Spot) → ArrowRule n s x s' y → AtNodes x y
arrow-nodes n s s' x y (by_name reads belongs reaches finds used symbol) = tt
arrow-nodes n s s' x y (by_new_name reads belongs reaches fresh) = tt
arrow-nodes n s s' x y (with_body none) = tt
arrow-nodes n s s' x y (with_expression expression none) = tt
