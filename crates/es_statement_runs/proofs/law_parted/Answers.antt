use Rattle.es_statement_runs.proofs.Kernels.{law_parted_proof}
use Rattle.es_statement_runs.proofs.law_parted.Goals as goal

pub returns : goal.returns
returns c = law_parted_proof
