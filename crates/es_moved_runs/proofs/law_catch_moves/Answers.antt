use Rattle.es_moved_runs.proofs.CatchMoves.{law_catch_moves_proof}
use Rattle.es_moved_runs.proofs.law_catch_moves.Goals as goal

pub returns : goal.returns
returns c = law_catch_moves_proof
