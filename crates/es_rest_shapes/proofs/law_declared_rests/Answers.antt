use Rattle.es_rest_shapes.proofs.NoneLeft.{law_declared_rests_proof}
use Rattle.es_rest_shapes.proofs.law_declared_rests.Goals as goal

pub returns : goal.returns
returns c = law_declared_rests_proof
