use Rattle.es_constructor_this.proofs.SetPrograms.{set_outside_proof}
use Rattle.es_constructor_this.proofs.law_set_outside.Goals as goal

pub returns : goal.returns
returns c = set_outside_proof
