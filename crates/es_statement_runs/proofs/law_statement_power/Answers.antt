use Rattle.es_statement_runs.proofs.MoreRows.{law_power_proof}
use Rattle.es_statement_runs.proofs.law_statement_power.Goals as goal

pub returns : goal.returns
returns c = law_power_proof
