use Rattle.es_runs.proofs.Laws.{law_place_proof}
use Rattle.es_runs.proofs.law_place.Goals as goal

pub returns : goal.returns
returns c = law_place_proof
