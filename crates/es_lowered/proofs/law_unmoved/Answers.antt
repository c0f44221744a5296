use Rattle.es_lowered.proofs.Moved.{law_unmoved_proof}
use Rattle.es_lowered.proofs.law_unmoved.Goals as goal

pub returns : goal.returns
returns c = law_unmoved_proof
