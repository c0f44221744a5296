use Rattle.es_statement_runs.proofs.OperandRows.{law_logical_assignment_proof}
use Rattle.es_statement_runs.proofs.law_statement_logical_assignment.Goals as goal

pub returns : goal.returns
returns c = law_logical_assignment_proof
