use Rattle.es_valid_rests.proofs.ExportExamples.{law_exported_rest_proof}
use Rattle.es_valid_rests.proofs.law_exported_rest.Goals as goal

pub returns : goal.returns
returns c = law_exported_rest_proof
