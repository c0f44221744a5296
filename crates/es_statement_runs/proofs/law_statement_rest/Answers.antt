use Rattle.es_statement_runs.proofs.ObjectRests.{law_rest_proof}
use Rattle.es_statement_runs.proofs.law_statement_rest.Goals as goal

pub returns : goal.returns
returns c = law_rest_proof
