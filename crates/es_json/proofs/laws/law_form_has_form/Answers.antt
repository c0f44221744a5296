use Rattle.es_json.proofs.FormHasForm.{form_has_form}
use Rattle.es_json.proofs.laws.law_form_has_form.Goals as goal

pub returns : goal.returns
returns c = form_has_form
