use Rattle.es_rest_shapes.proofs.NoneLeft.{law_none_left_proof}
use Rattle.es_rest_shapes.proofs.law_none_left.Goals as goal

pub returns : goal.returns
returns c = law_none_left_proof
