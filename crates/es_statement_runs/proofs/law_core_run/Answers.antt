use Rattle.es_statement_runs.proofs.RunLaws.{law_core_run_proof}
use Rattle.es_statement_runs.proofs.law_core_run.Goals as goal

pub returns : goal.returns
returns c = law_core_run_proof
