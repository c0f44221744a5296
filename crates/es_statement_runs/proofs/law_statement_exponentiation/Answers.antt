use Rattle.es_statement_runs.proofs.OperandRows.{law_exponentiation_proof}
use Rattle.es_statement_runs.proofs.law_statement_exponentiation.Goals as goal

pub returns : goal.returns
returns c = law_exponentiation_proof
