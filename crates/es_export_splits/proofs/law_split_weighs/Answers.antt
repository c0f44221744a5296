use Rattle.es_export_splits.proofs.SplitWeights.{law_split_weighs_proof}
use Rattle.es_export_splits.proofs.law_split_weighs.Goals as goal

pub returns : goal.returns
returns c = law_split_weighs_proof
