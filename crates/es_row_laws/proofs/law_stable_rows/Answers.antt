use Rattle.es_row_laws.proofs.Stable.{law_stable_rows_proof}
use Rattle.es_row_laws.proofs.law_stable_rows.Goals as goal

pub returns : goal.returns
returns c = law_stable_rows_proof
