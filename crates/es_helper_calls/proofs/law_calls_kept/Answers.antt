use Rattle.es_helper_calls.proofs.CallsKept.{law_calls_kept_proof}
use Rattle.es_helper_calls.proofs.law_calls_kept.Goals as goal

pub returns : goal.returns
returns c = law_calls_kept_proof
