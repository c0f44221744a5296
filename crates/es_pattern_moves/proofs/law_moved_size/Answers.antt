use Rattle.es_pattern_moves.proofs.MovedSize.{law_moved_size_proof}
use Rattle.es_pattern_moves.proofs.law_moved_size.Goals as goal

pub returns : goal.returns
returns c = law_moved_size_proof
