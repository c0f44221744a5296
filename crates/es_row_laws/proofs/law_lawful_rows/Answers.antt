use Rattle.es_row_laws.proofs.Lawful.{law_lawful_rows_proof}
use Rattle.es_row_laws.proofs.law_lawful_rows.Goals as goal

pub returns : goal.returns
returns c = law_lawful_rows_proof
