use Rattle.es_constructor_this.proofs.SetConstructs.{law_set_none_proof}
use Rattle.es_constructor_this.proofs.law_set_none.Goals as goal

pub returns : goal.returns
returns c = law_set_none_proof
