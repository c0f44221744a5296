use Rattle.es_steps.proofs.CoreLaws.{law_slots_proof}
use Rattle.es_steps.proofs.law_slots.Goals as goal

pub returns : goal.returns
returns c = law_slots_proof
