use Rattle.es_valid_rests.proofs.Examples.{law_rest_examples_proof}
use Rattle.es_valid_rests.proofs.law_rest_examples.Goals as goal

pub returns : goal.returns
returns c = law_rest_examples_proof
