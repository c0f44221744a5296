use Rattle.es_reached.proofs.Results.{law_core_result_proof}
use Rattle.es_reached.proofs.law_core_result.Goals as goal

pub returns : goal.returns
returns c = law_core_result_proof
