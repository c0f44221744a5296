use Rattle.es_lowered.proofs.Set.{law_unset_proof}
use Rattle.es_lowered.proofs.law_unset.Goals as goal

pub returns : goal.returns
returns c = law_unset_proof
