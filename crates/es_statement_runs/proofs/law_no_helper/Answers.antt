use Rattle.es_statement_runs.proofs.NoHelpers.{law_no_helper_proof}
use Rattle.es_statement_runs.proofs.law_no_helper.Goals as goal

pub returns : goal.returns
returns c = law_no_helper_proof
