use Rattle.es_steps.proofs.CoreKeeps.{law_core_bindings_proof}
use Rattle.es_steps.proofs.law_core_bindings.Goals as goal

pub returns : goal.returns
returns c = law_core_bindings_proof
