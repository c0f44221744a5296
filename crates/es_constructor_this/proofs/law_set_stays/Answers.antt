use Rattle.es_constructor_this.proofs.SetStays.{law_set_stays_proof}
use Rattle.es_constructor_this.proofs.law_set_stays.Goals as goal

pub returns : goal.returns
returns c = law_set_stays_proof
