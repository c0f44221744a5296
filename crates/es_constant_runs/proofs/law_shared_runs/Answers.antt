use Rattle.es_constant_runs.proofs.SharedPrograms.{law_shared_runs_proof}
use Rattle.es_constant_runs.proofs.law_shared_runs.Goals as goal

pub returns : goal.returns
returns c = law_shared_runs_proof
