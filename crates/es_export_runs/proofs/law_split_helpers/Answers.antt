use Rattle.es_export_runs.proofs.SplitClass.{law_split_helpers_proof}
use Rattle.es_export_runs.proofs.law_split_helpers.Goals as goal

pub returns : goal.returns
returns c = law_split_helpers_proof
