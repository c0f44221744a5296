use Rattle.es_constructor_this.proofs.SetPrograms.{set_bound_proof}
use Rattle.es_constructor_this.proofs.law_set_bound.Goals as goal

pub returns : goal.returns
returns c = set_bound_proof
