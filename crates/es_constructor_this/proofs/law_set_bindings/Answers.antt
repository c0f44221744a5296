use Rattle.es_constructor_this.proofs.SetPrograms.{set_bindings_proof}
use Rattle.es_constructor_this.proofs.law_set_bindings.Goals as goal

pub returns : goal.returns
returns c = set_bindings_proof
