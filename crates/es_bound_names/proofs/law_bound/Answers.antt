use Rattle.es_bound_names.proofs.Declaring.{law_bound_proof}
use Rattle.es_bound_names.proofs.law_bound.Goals as goal

pub returns : goal.returns
returns c = law_bound_proof
