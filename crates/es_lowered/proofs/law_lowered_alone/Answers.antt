use Rattle.es_lowered.proofs.Lowered.{law_lowered_alone_proof}
use Rattle.es_lowered.proofs.law_lowered_alone.Goals as goal

pub returns : goal.returns
returns c = law_lowered_alone_proof
