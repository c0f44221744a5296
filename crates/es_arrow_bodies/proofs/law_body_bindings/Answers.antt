use Rattle.es_arrow_bodies.proofs.BodyPrograms.{law_body_bindings_proof}
use Rattle.es_arrow_bodies.proofs.law_body_bindings.Goals as goal

pub returns : goal.returns
returns c = law_body_bindings_proof
