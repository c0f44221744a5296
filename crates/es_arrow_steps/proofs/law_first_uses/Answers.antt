use Rattle.es_arrow_steps.proofs.FirstUses.{law_first_uses_proof}
use Rattle.es_arrow_steps.proofs.law_first_uses.Goals as goal

pub returns : goal.returns
returns c = law_first_uses_proof
