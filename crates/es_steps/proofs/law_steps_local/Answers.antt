use Rattle.es_steps.proofs.LocalRules.{law_steps_local_proof}
use Rattle.es_steps.proofs.law_steps_local.Goals as goal

pub returns : goal.returns
returns c = law_steps_local_proof
