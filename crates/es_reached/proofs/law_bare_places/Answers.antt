use Rattle.es_reached.proofs.BarePlaces.{law_bare_places_proof}
use Rattle.es_reached.proofs.law_bare_places.Goals as goal

pub returns : goal.returns
returns c = law_bare_places_proof
