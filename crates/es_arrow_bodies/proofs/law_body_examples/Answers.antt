use Rattle.es_arrow_bodies.proofs.Examples.{law_body_examples_proof}
use Rattle.es_arrow_bodies.proofs.law_body_examples.Goals as goal

pub returns : goal.returns
returns c = law_body_examples_proof
