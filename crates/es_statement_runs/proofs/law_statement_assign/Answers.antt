use Rattle.es_statement_runs.proofs.MoreRows.{law_assign_proof}
use Rattle.es_statement_runs.proofs.law_statement_assign.Goals as goal

pub returns : goal.returns
returns c = law_assign_proof
