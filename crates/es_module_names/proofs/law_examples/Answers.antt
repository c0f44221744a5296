use Rattle.es_module_names.proofs.Examples.{law_examples_proof}
use Rattle.es_module_names.proofs.law_examples.Goals as goal

pub returns : goal.returns
returns c = law_examples_proof
