use Rattle.es_statement_runs.proofs.MeantProof.{law_meant_proof}
use Rattle.es_statement_runs.proofs.law_meant.Goals as goal

pub returns : goal.returns
returns c = law_meant_proof
