use Rattle.es_statement_runs.proofs.Later.{law_later_proof}
use Rattle.es_statement_runs.proofs.law_statement_later.Goals as goal

pub returns : goal.returns
returns c = law_later_proof
