use Rattle.es_arrow_bodies.proofs.BodyPrograms.{law_body_outside_proof}
use Rattle.es_arrow_bodies.proofs.law_body_outside.Goals as goal

pub returns : goal.returns
returns c = law_body_outside_proof
