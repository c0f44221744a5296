use Rattle.es_steps.proofs.FormSteps.{law_form_reached_proof}
use Rattle.es_steps.proofs.law_form_reached.Goals as goal

pub returns : goal.returns
returns c = law_form_reached_proof
