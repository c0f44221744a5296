use Rattle.es_lowered.proofs.Used.{law_unused_proof}
use Rattle.es_lowered.proofs.law_unused.Goals as goal

pub returns : goal.returns
returns c = law_unused_proof
