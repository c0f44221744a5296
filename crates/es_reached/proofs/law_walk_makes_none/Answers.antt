use Rattle.es_reached.proofs.WalkSteps.{law_walk_makes_none_proof}
use Rattle.es_reached.proofs.law_walk_makes_none.Goals as goal

pub returns : goal.returns
returns c = law_walk_makes_none_proof
