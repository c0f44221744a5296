use Rattle.es_valid_names.proofs.BareNames.{law_together_proof}
use Rattle.es_valid_names.proofs.law_together.Goals as goal

pub returns : goal.returns
returns c = law_together_proof
