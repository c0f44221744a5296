use Rattle.es_rest_results.proofs.Results.{law_none_taken_proof}
use Rattle.es_rest_results.proofs.law_none_taken.Goals as goal

pub returns : goal.returns
returns c = law_none_taken_proof
