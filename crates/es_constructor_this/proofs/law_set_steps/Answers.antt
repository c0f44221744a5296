use Rattle.es_constructor_this.proofs.SetLaws.{law_set_steps_proof}
use Rattle.es_constructor_this.proofs.law_set_steps.Goals as goal

pub returns : goal.returns
returns c = law_set_steps_proof
