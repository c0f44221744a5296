use Rattle.es_rest_shapes.proofs.BareRests.{law_bare_rests_proof}
use Rattle.es_rest_shapes.proofs.law_bare_rests.Goals as goal

pub returns : goal.returns
returns c = law_bare_rests_proof
