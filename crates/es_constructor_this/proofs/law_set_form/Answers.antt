use Rattle.es_constructor_this.proofs.SetPrograms.{set_form_proof}
use Rattle.es_constructor_this.proofs.law_set_form.Goals as goal

pub returns : goal.returns
returns c = set_form_proof
