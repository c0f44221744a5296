use Rattle.es_steps.proofs.Laws.{law_steps_proof}
use Rattle.es_steps.proofs.law_steps.Goals as goal

pub returns : goal.returns
returns c = law_steps_proof
