use Rattle.es_lowered.proofs.Used.{law_used_proof}
use Rattle.es_lowered.proofs.law_used.Goals as goal

pub returns : goal.returns
returns c = law_used_proof
