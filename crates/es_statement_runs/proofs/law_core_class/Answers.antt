use Rattle.es_statement_runs.proofs.CoreClass.{law_core_class_proof}
use Rattle.es_statement_runs.proofs.law_core_class.Goals as goal

pub returns : goal.returns
returns c = law_core_class_proof
