use Rattle.es_rest_rows.proofs.RowsAmongRules.{law_rest_rows_proof}
use Rattle.es_rest_rows.proofs.law_rest_rows.Goals as goal

pub returns : goal.returns
returns c = law_rest_rows_proof
