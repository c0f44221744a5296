use Rattle.es_statement_runs.proofs.Kernels.{law_groups_proof}
use Rattle.es_statement_runs.proofs.law_groups.Goals as goal

pub returns : goal.returns
returns c = law_groups_proof
