use Rattle.es_steps.proofs.FormSteps.{law_form_proof}
use Rattle.es_steps.proofs.law_form.Goals as goal

pub returns : goal.returns
returns c = law_form_proof
