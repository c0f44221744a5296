use Rattle.es_valid_arrows.proofs.ArrowSteps.{law_arrow_form_proof}
use Rattle.es_valid_arrows.proofs.law_arrow_form.Goals as goal

pub returns : goal.returns
returns c = law_arrow_form_proof
