use Rattle.es_unsupported.proofs.HelpersFree.{law_helpers_free_proof}
use Rattle.es_unsupported.proofs.laws.law_helpers_free.Goals as goal

pub returns : goal.returns
returns c = law_helpers_free_proof
