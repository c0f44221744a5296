use Rattle.es_pattern_moves.proofs.MovedAgree.{law_one_moved_proof}
use Rattle.es_pattern_moves.proofs.law_one_moved.Goals as goal

pub returns : goal.returns
returns c = law_one_moved_proof
