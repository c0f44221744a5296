use Rattle.es_statement_runs.proofs.Using.{law_using_proof}
use Rattle.es_statement_runs.proofs.law_statement_using.Goals as goal

pub returns : goal.returns
returns c = law_using_proof
