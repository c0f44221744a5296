use Rattle.es_steps.proofs.Sites.{law_inwards_proof}
use Rattle.es_steps.proofs.law_inwards.Goals as goal

pub returns : goal.returns
returns c = law_inwards_proof
