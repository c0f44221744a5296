use Rattle.es_rest_steps.proofs.WalkSteps.{law_walk_parts_proof}
use Rattle.es_rest_steps.proofs.law_walk_parts.Goals as goal

pub returns : goal.returns
returns c = law_walk_parts_proof
