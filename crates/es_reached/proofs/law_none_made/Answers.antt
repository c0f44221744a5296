use Rattle.es_reached.proofs.FreeSteps.{law_none_made_proof}
use Rattle.es_reached.proofs.law_none_made.Goals as goal

pub returns : goal.returns
returns c = law_none_made_proof
