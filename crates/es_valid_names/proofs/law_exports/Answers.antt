use Rattle.es_valid_names.proofs.FurtherNames.{law_exports_proof}
use Rattle.es_valid_names.proofs.law_exports.Goals as goal

pub returns : goal.returns
returns c = law_exports_proof
