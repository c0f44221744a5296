use Rattle.es_valid_rests.proofs.RestSteps.{law_rest_places_proof}
use Rattle.es_valid_rests.proofs.law_rest_places.Goals as goal

pub returns : goal.returns
returns c = law_rest_places_proof
