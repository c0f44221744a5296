use Rattle.es_conditions.proofs.Inward.{law_conditions_proof}
use Rattle.es_conditions.proofs.law_conditions.Goals as goal

pub returns : goal.returns
returns c = law_conditions_proof
