use Rattle.es_steps.proofs.CoreKeeps.{law_core_reached_proof}
use Rattle.es_steps.proofs.law_core_reached.Goals as goal

pub returns : goal.returns
returns c = law_core_reached_proof
