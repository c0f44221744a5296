-- Steps of the row by which constructors set their `this`.
use Rattle.std.proofs.Common.{[], inr}
use Rattle.es_steps.specs.Steps.{Ledger, Site, Spot}
use Rattle.es_valid_rests.specs.Laws.{with_rests}
use Rattle.es_super_calls.specs.declared.standing.ClassStanding.TheVariants.{Elsewhere}
use Rattle.es_set_this.specs.ConstructorThis.{set_this}
use Rattle.es_constructor_this.specs.SetRows.{SetRow}
use Rattle.es_constructor_this.proofs.SetLaws.{law_set_steps_proof}
use Rattle.es_constructor_this.proofs.SetPrograms.{set_bindings_proof, set_form_proof, set_outside_proof, set_rules_proof}
use Rattle.es_constructor_this.proofs.SomeOptions.{some_options}
use Rattle.es_lowered.specs.Set.{LawSet, LawUnset, set_rules}
use Rattle.es_lowered.proofs.Kept.{result-by}
use Rattle.es_lowered.proofs.Stays.{stays-as}

among-rules : (n : Site) (s : Ledger) (x : Spot) (s' : Ledger) (y : Spot) → SetRow n s x s' y → with_rests SetRow some_options n s x s' y
among-rules n s x s' y r = inr r

pub law_set_proof : LawSet
law_set_proof made p form right =
    let found = law_set_steps_proof made p form right in
    result-by SetRow (with_rests SetRow some_options) among-rules set_bindings_proof (set_form_proof some_options) (set_rules_proof some_options) (set_outside_proof some_options) p (set_this made Elsewhere p) found.0 [] found.1 form right found.2 found.3 found.4

pub law_unset_proof : LawUnset
law_unset_proof on = stays-as (set_rules on)
