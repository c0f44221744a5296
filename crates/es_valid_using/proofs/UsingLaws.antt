-- The laws of `using`: form, places, other modules, and all nineteen static rules.
use Rattle.std.proofs.Common.{◌≡◌, subst, []}
use Rattle.std.specs.Prelude.{true}
use Rattle.es_tree.specs.HasForm.{has_form}
use Rattle.es_tree.specs.StaticRules.{breaks}
use Rattle.es_tree.specs.Tree.{Tree}
use Rattle.es_tree.specs.declared.table.Sort.TheVariants.{Program as s-Program}
use Rattle.es_steps.specs.AllRules.{UsingRule}
use Rattle.es_steps.specs.Open.{opened}
use Rattle.es_steps.proofs.Opened.{finished-opened}
use Rattle.es_module_names.specs.Laws.{SameOutside}
use Rattle.es_valid_using.specs.Laws.{LawUsingForm, LawUsingOutside, LawUsingPlaces, LawUsingReached, LawUsingRules}
use Rattle.es_valid_using.proofs.UsingNames.{using-rules}
use Rattle.es_valid_using.proofs.UsingNamesRules.{all-hold, all-moves}
use Rattle.es_valid_using.proofs.UsingOutside.{using-outside}
use Rattle.es_valid_using.proofs.UsingPlacesSteps.{using-form, using-keeps-form, using-places}
use Rattle.es_valid_using.proofs.UsingRules.{all-using}

pub law_using_form_proof : LawUsingForm
law_using_form_proof = using-form UsingRule all-using

pub law_using_places_proof : LawUsingPlaces
law_using_places_proof = using-places UsingRule all-using

pub law_using_outside_proof : LawUsingOutside
law_using_outside_proof o = using-outside o UsingRule (using-keeps-form UsingRule all-using) all-hold

pub law_using_rules_proof : LawUsingRules
law_using_rules_proof o = using-rules o UsingRule (using-keeps-form UsingRule all-using) all-moves (using-form UsingRule all-using o) (using-places UsingRule all-using o) (law_using_outside_proof o)

pub law_using_reached_proof : LawUsingReached
law_using_reached_proof o p q w w' f h bound steps = record {
  form = subst (λ (t : Tree). has_form s-Program t ≡ true) (finished-opened q) (using-form UsingRule all-using o p w w' (opened q) f steps);
  kept = subst (λ (t : Tree). breaks t ≡ []) (finished-opened q) (law_using_rules_proof o p w w' (opened q) f h bound steps);
  outside = subst (λ (t : Tree). SameOutside p t) (finished-opened q) (law_using_outside_proof o p w w' (opened q) f steps);
}
