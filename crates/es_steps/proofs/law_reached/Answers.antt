use Rattle.es_steps.proofs.Laws.{law_reached_proof}
use Rattle.es_steps.proofs.law_reached.Goals as goal

pub returns : goal.returns
returns c = law_reached_proof
