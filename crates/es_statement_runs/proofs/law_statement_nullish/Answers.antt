use Rattle.es_statement_runs.proofs.Rows.{law_nullish_proof}
use Rattle.es_statement_runs.proofs.law_statement_nullish.Goals as goal

pub returns : goal.returns
returns c = law_nullish_proof
