use Rattle.es_valid_arrows.proofs.PlacePrograms.{law_arrow_places_proof}
use Rattle.es_valid_arrows.proofs.law_arrow_places.Goals as goal

pub returns : goal.returns
returns c = law_arrow_places_proof
