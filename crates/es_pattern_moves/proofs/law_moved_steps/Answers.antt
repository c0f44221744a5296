use Rattle.es_pattern_moves.proofs.MovedLaws.{law_moved_steps_proof}
use Rattle.es_pattern_moves.proofs.law_moved_steps.Goals as goal

pub returns : goal.returns
returns c = law_moved_steps_proof
