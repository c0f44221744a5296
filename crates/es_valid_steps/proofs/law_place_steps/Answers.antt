use Rattle.es_valid_steps.proofs.PlaceSteps.{law_place_steps_proof}
use Rattle.es_valid_steps.proofs.law_place_steps.Goals as goal

pub returns : goal.returns
returns c = law_place_steps_proof
