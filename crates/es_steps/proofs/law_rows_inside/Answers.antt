use Rattle.es_steps.proofs.RowsInside.{law_rows_inside_proof}
use Rattle.es_steps.proofs.law_rows_inside.Goals as goal

pub returns : goal.returns
returns c = law_rows_inside_proof
