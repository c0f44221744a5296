use Rattle.es_export_splits.proofs.SplitUsedWeights.{law_split_weighs_used_proof}
use Rattle.es_export_splits.proofs.law_split_weighs_used.Goals as goal

pub returns : goal.returns
returns c = law_split_weighs_used_proof
