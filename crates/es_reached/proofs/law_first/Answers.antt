use Rattle.es_reached.proofs.Results.{law_first_proof}
use Rattle.es_reached.proofs.law_first.Goals as goal

pub returns : goal.returns
returns c = law_first_proof
