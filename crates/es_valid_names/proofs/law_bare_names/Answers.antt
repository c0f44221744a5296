use Rattle.es_valid_names.proofs.BareNames.{law_bare_names_proof}
use Rattle.es_valid_names.proofs.law_bare_names.Goals as goal

pub returns : goal.returns
returns c = law_bare_names_proof
