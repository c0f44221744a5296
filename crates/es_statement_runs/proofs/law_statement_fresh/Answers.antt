use Rattle.es_statement_runs.proofs.RunLaws.{law_fresh_proof}
use Rattle.es_statement_runs.proofs.law_statement_fresh.Goals as goal

pub returns : goal.returns
returns c = law_fresh_proof
