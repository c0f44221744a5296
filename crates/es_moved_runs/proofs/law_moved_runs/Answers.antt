use Rattle.es_moved_runs.proofs.MovedPrograms.{law_moved_runs_proof}
use Rattle.es_moved_runs.proofs.law_moved_runs.Goals as goal

pub returns : goal.returns
returns c = law_moved_runs_proof
