use Rattle.es_statement_runs.proofs.ValidProof.{law_valid_is_meant_proof}
use Rattle.es_statement_runs.proofs.law_valid_is_meant.Goals as goal

pub returns : goal.returns
returns c = law_valid_is_meant_proof
