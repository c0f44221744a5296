-- What a program becomes by moving is reached by steps of the rows.
use Rattle.es_pattern_moves.specs.Laws.{LawMovedSteps}
use Rattle.es_pattern_moves.proofs.BareMoves.{moves-bare, parameter-bare, pattern-bare}
use Rattle.es_pattern_moves.proofs.MoveWalks.{law_move_walks_proof}
use Rattle.es_pattern_moves.proofs.MovedReached.{moved-steps}

pub law_moved_steps_proof : LawMovedSteps
law_moved_steps_proof = moved-steps law_move_walks_proof moves-bare parameter-bare pattern-bare
