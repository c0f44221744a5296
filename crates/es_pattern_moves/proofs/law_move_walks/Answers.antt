use Rattle.es_pattern_moves.proofs.MoveWalks.{law_move_walks_proof}
use Rattle.es_pattern_moves.proofs.law_move_walks.Goals as goal

pub returns : goal.returns
returns c = law_move_walks_proof
