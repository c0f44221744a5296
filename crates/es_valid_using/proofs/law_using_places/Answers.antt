use Rattle.es_valid_using.proofs.UsingLaws.{law_using_places_proof}
use Rattle.es_valid_using.proofs.law_using_places.Goals as goal

pub returns : goal.returns
returns c = law_using_places_proof
