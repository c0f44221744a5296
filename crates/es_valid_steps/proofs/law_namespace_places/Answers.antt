use Rattle.es_valid_steps.proofs.NamespacePlaces.{law_namespace_places_proof}
use Rattle.es_valid_steps.proofs.law_namespace_places.Goals as goal

pub returns : goal.returns
returns c = law_namespace_places_proof
