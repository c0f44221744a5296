use Rattle.es_steps.proofs.Reached.{law_bindings_proof}
use Rattle.es_steps.proofs.law_bindings.Goals as goal

pub returns : goal.returns
returns c = law_bindings_proof
