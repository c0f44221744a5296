use Rattle.es_steps.proofs.Sites.{law_alike_on_fewer_proof}
use Rattle.es_steps.proofs.law_alike_on_fewer.Goals as goal

pub returns : goal.returns
returns c = law_alike_on_fewer_proof
