use Rattle.es_steps.proofs.LocalRules.{law_local_proof}
use Rattle.es_steps.proofs.law_local.Goals as goal

pub returns : goal.returns
returns c = law_local_proof
