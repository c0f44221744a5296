use Rattle.es_lowered.proofs.Set.{law_set_proof}
use Rattle.es_lowered.proofs.law_set.Goals as goal

pub returns : goal.returns
returns c = law_set_proof
