use Rattle.es_valid_steps.proofs.PlaceSteps.{law_places_reached_proof}
use Rattle.es_valid_steps.proofs.law_places_reached.Goals as goal

pub returns : goal.returns
returns c = law_places_reached_proof
