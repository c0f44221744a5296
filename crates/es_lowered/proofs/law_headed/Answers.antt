use Rattle.es_lowered.proofs.Used.{law_headed_proof}
use Rattle.es_lowered.proofs.law_headed.Goals as goal

pub returns : goal.returns
returns c = law_headed_proof
