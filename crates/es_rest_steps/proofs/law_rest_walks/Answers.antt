use Rattle.es_rest_steps.proofs.WalkSteps.{law_rest_walks_proof}
use Rattle.es_rest_steps.proofs.law_rest_walks.Goals as goal

pub returns : goal.returns
returns c = law_rest_walks_proof
