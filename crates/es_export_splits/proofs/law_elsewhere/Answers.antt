use Rattle.es_export_splits.proofs.SplitTests.{law_elsewhere_proof}
use Rattle.es_export_splits.proofs.law_elsewhere.Goals as goal

pub returns : goal.returns
returns c = law_elsewhere_proof
