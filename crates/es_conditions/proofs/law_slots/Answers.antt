use Rattle.es_conditions.proofs.Wraps.{law_slots_proof}
use Rattle.es_conditions.proofs.law_slots.Goals as goal

pub returns : goal.returns
returns c = law_slots_proof
