use Rattle.es_valid_names.proofs.FurtherNames.{law_names_proof}
use Rattle.es_valid_names.proofs.law_names.Goals as goal

pub returns : goal.returns
returns c = law_names_proof
