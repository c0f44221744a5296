use Rattle.es_using_heads.proofs.HeadWeights.{law_weighed_proof}
use Rattle.es_using_heads.proofs.law_weighed.Goals as goal

pub returns : goal.returns
returns c = law_weighed_proof
