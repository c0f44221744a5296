use Rattle.es_steps.proofs.Start.{law_start_proof}
use Rattle.es_steps.proofs.law_start.Goals as goal

pub returns : goal.returns
returns c = law_start_proof
