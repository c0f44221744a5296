use Rattle.es_helper_names.proofs.CallNames.{law_call_names_proof}
use Rattle.es_helper_names.proofs.law_call_names.Goals as goal

pub returns : goal.returns
returns c = law_call_names_proof
