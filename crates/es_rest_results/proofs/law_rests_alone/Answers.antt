use Rattle.es_rest_results.proofs.Results.{law_rests_alone_proof}
use Rattle.es_rest_results.proofs.law_rests_alone.Goals as goal

pub returns : goal.returns
returns c = law_rests_alone_proof
