use Rattle.es_statement_runs.proofs.Kernels.{law_collected_proof}
use Rattle.es_statement_runs.proofs.law_collected.Goals as goal

pub returns : goal.returns
returns c = law_collected_proof
