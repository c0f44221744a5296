use Rattle.es_valid_arrows.proofs.Examples.{law_arrow_examples_proof}
use Rattle.es_valid_arrows.proofs.law_arrow_examples.Goals as goal

pub returns : goal.returns
returns c = law_arrow_examples_proof
