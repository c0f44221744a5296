use Rattle.es_statement_runs.proofs.OperandRows.{law_chain_proof}
use Rattle.es_statement_runs.proofs.law_statement_chain.Goals as goal

pub returns : goal.returns
returns c = law_chain_proof
