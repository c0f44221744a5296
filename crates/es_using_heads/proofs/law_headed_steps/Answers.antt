use Rattle.es_using_heads.proofs.HeadReached.{law_headed_steps_proof}
use Rattle.es_using_heads.proofs.law_headed_steps.Goals as goal

pub returns : goal.returns
returns c = law_headed_steps_proof
