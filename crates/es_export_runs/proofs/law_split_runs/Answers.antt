use Rattle.es_export_runs.proofs.SplitRuns.{law_split_runs_proof}
use Rattle.es_export_runs.proofs.law_split_runs.Goals as goal

pub returns : goal.returns
returns c = law_split_runs_proof
