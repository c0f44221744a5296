-- Steps of the rules of `using`.
use Rattle.std.proofs.Common.{◌≡◌, inl, inr}
use Rattle.std.specs.Prelude.{true}
use Rattle.es_tree.specs.declared.options.EnvOptions.{EnvOptions}
use Rattle.es_steps.specs.AllRules.{AllRules, UsingRule}
use Rattle.es_steps.specs.Laws.{BindingsKeep}
use Rattle.es_steps.specs.Steps.{Ledger, Site, Spot}
use Rattle.es_steps.proofs.BridgeInclusion.{all_under}
use Rattle.es_steps.proofs.Reached.{law_bindings_proof}
use Rattle.es_using_heads.proofs.HeadReached.{law_headed_steps_proof}
use Rattle.es_using_rows.proofs.UsedLaws.{law_used_steps_proof}
use Rattle.es_valid_using.specs.Laws.{with_using}
use Rattle.es_valid_using.proofs.UsingLaws.{law_using_form_proof, law_using_outside_proof, law_using_rules_proof}
use Rattle.es_lowered.specs.Used.{LawHeaded, LawUnused, LawUsed, used_rules}
use Rattle.es_lowered.proofs.Kept.{result-by}
use Rattle.es_lowered.proofs.Lowered.{where-asked}
use Rattle.es_lowered.proofs.Stays.{stays-as}

module _ (o : EnvOptions) (on : o.es2026.explicit_resource_management ≡ true) where
  among-using : (n : Site) (s : Ledger) (x : Spot) (s' : Ledger) (y : Spot) → UsingRule n s x s' y → with_using UsingRule o n s x s' y
  among-using n s x s' y r = inr (where-asked o.es2026.explicit_resource_management UsingRule n s x s' y on r)

  among-all : (n : Site) (s : Ledger) (x : Spot) (s' : Ledger) (y : Spot) → UsingRule n s x s' y → AllRules o n s x s' y
  among-all n s x s' y r = inr (inr (inr (inr (inl (where-asked o.es2026.explicit_resource_management UsingRule n s x s' y on r)))))

  keep-bindings : BindingsKeep UsingRule
  keep-bindings p q w w' kind bound steps = law_bindings_proof o p q w w' kind bound (all_under UsingRule (AllRules o) among-all steps)

pub law_used_proof : LawUsed
law_used_proof o p q names form right on unbound uses =
    let found = law_used_steps_proof p q names form right unbound uses in
    result-by UsingRule (with_using UsingRule o) (among-using o on) (keep-bindings o on) (law_using_form_proof o) (law_using_rules_proof o) (law_using_outside_proof o) p q found.0 names found.1 form right found.2 found.3 found.4

pub law_headed_proof : LawHeaded
law_headed_proof o p q names form right on heads =
    let found = law_headed_steps_proof p q names form right heads in
    result-by UsingRule (with_using UsingRule o) (among-using o on) (keep-bindings o on) (law_using_form_proof o) (law_using_rules_proof o) (law_using_outside_proof o) p q found.0 names found.1 form right found.2 found.3 found.4

pub law_unused_proof : LawUnused
law_unused_proof on = stays-as (used_rules on)
