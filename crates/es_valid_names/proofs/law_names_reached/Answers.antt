use Rattle.es_valid_names.proofs.FurtherNames.{law_names_reached_proof}
use Rattle.es_valid_names.proofs.law_names_reached.Goals as goal

pub returns : goal.returns
returns c = law_names_reached_proof
