use Rattle.es_export_splits.proofs.ExportSplits.{law_split_proof}
use Rattle.es_export_splits.proofs.law_split.Goals as goal

pub returns : goal.returns
returns c = law_split_proof
