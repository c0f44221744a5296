use Rattle.es_moved_runs.proofs.HeadMoves.{law_head_moves_proof}
use Rattle.es_moved_runs.proofs.law_head_moves.Goals as goal

pub returns : goal.returns
returns c = law_head_moves_proof
