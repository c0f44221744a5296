use Rattle.es_rest_shapes.proofs.NoneLeft.{law_assigned_rests_proof}
use Rattle.es_rest_shapes.proofs.law_assigned_rests.Goals as goal

pub returns : goal.returns
returns c = law_assigned_rests_proof
