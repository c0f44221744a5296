use Rattle.es_steps.proofs.RowsInside.{law_rows_without_arrows_proof}
use Rattle.es_steps.proofs.law_rows_without_arrows.Goals as goal

pub returns : goal.returns
returns c = law_rows_without_arrows_proof
