use Rattle.es_steps.proofs.LocalRules.{law_steps_without_arrows_proof}
use Rattle.es_steps.proofs.law_steps_without_arrows.Goals as goal

pub returns : goal.returns
returns c = law_steps_without_arrows_proof
