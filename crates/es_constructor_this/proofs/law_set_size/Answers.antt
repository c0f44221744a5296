use Rattle.es_constructor_this.proofs.SetSizes.{law_set_size_proof}
use Rattle.es_constructor_this.proofs.law_set_size.Goals as goal

pub returns : goal.returns
returns c = law_set_size_proof
