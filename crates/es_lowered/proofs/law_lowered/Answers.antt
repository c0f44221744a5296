use Rattle.es_lowered.proofs.Lowered.{law_lowered_proof}
use Rattle.es_lowered.proofs.law_lowered.Goals as goal

pub returns : goal.returns
returns c = law_lowered_proof
