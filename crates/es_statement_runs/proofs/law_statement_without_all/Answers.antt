use Rattle.es_statement_runs.proofs.WithoutAll.{law_without_all_proof}
use Rattle.es_statement_runs.proofs.law_statement_without_all.Goals as goal

pub returns : goal.returns
returns c = law_without_all_proof
