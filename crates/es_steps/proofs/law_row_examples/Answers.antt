use Rattle.es_steps.proofs.RowExamples.{law_row_examples_proof}
use Rattle.es_steps.proofs.law_row_examples.Goals as goal

pub returns : goal.returns
returns c = law_row_examples_proof
