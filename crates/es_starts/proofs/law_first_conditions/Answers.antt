use Rattle.es_starts.proofs.FirstConditions.{law_first_conditions_proof}
use Rattle.es_starts.proofs.law_first_conditions.Goals as goal

pub returns : goal.returns
returns c = law_first_conditions_proof
