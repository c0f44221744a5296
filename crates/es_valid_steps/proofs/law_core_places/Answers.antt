use Rattle.es_valid_steps.proofs.PlaceSteps.{law_core_places_proof}
use Rattle.es_valid_steps.proofs.law_core_places.Goals as goal

pub returns : goal.returns
returns c = law_core_places_proof
