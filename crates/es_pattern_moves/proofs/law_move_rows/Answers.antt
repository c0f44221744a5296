use Rattle.es_pattern_moves.proofs.RowsAmongMoves.{law_move_rows_proof}
use Rattle.es_pattern_moves.proofs.law_move_rows.Goals as goal

pub returns : goal.returns
returns c = law_move_rows_proof
