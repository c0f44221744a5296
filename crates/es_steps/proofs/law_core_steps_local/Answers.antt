use Rattle.es_steps.proofs.LocalRules.{law_core_steps_local_proof}
use Rattle.es_steps.proofs.law_core_steps_local.Goals as goal

pub returns : goal.returns
returns c = law_core_steps_local_proof
