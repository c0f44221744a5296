use Rattle.es_reached.proofs.FreeSteps.{law_no_declared_rests_proof}
use Rattle.es_reached.proofs.law_no_declared_rests.Goals as goal

pub returns : goal.returns
returns c = law_no_declared_rests_proof
