use Rattle.es_steps.proofs.BridgeStart.{law_first_whole_proof}
use Rattle.es_steps.proofs.law_first_whole.Goals as goal

pub returns : goal.returns
returns c = law_first_whole_proof
