use Rattle.es_steps.proofs.BridgeStart.{law_reached_by_name_proof}
use Rattle.es_steps.proofs.law_reached_by_name.Goals as goal

pub returns : goal.returns
returns c = law_reached_by_name_proof
