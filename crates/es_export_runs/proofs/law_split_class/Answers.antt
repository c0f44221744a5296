use Rattle.es_export_runs.proofs.SplitClass.{law_split_class_proof}
use Rattle.es_export_runs.proofs.law_split_class.Goals as goal

pub returns : goal.returns
returns c = law_split_class_proof
