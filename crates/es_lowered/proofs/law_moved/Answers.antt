use Rattle.es_lowered.proofs.Moved.{law_moved_proof}
use Rattle.es_lowered.proofs.law_moved.Goals as goal

pub returns : goal.returns
returns c = law_moved_proof
