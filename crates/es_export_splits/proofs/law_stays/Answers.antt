use Rattle.es_export_splits.proofs.SplitStays.{law_stays_proof}
use Rattle.es_export_splits.proofs.law_stays.Goals as goal

pub returns : goal.returns
returns c = law_stays_proof
