use Rattle.es_valid_steps.proofs.Visits.{law_places_proof}
use Rattle.es_valid_steps.proofs.law_places.Goals as goal

pub returns : goal.returns
returns c = law_places_proof
