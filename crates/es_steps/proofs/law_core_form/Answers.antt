use Rattle.es_steps.proofs.FormSteps.{law_core_form_proof}
use Rattle.es_steps.proofs.law_core_form.Goals as goal

pub returns : goal.returns
returns c = law_core_form_proof
