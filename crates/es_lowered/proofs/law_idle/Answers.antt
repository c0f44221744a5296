use Rattle.es_lowered.proofs.Idle.{law_idle_proof}
use Rattle.es_lowered.proofs.law_idle.Goals as goal

pub returns : goal.returns
returns c = law_idle_proof
