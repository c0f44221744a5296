use Rattle.es_moved_runs.proofs.MovesInRow.{law_moves_in_row_proof}
use Rattle.es_moved_runs.proofs.law_moves_in_row.Goals as goal

pub returns : goal.returns
returns c = law_moves_in_row_proof
