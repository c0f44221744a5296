use Rattle.es_valid_steps.proofs.FurtherSteps.{law_further_form_proof}
use Rattle.es_valid_steps.proofs.law_further_form.Goals as goal

pub returns : goal.returns
returns c = law_further_form_proof
