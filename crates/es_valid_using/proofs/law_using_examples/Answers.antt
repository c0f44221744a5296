use Rattle.es_valid_using.proofs.Examples.{law_using_examples_proof}
use Rattle.es_valid_using.proofs.law_using_examples.Goals as goal

pub returns : goal.returns
returns c = law_using_examples_proof
