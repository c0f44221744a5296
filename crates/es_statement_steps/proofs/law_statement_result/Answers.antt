use Rattle.es_statement_steps.proofs.Results.{law_statement_result_proof}
use Rattle.es_statement_steps.proofs.law_statement_result.Goals as goal

pub returns : goal.returns
returns c = law_statement_result_proof
