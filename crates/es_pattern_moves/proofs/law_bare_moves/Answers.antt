use Rattle.es_pattern_moves.proofs.BareMoves.{law_bare_moves_proof}
use Rattle.es_pattern_moves.proofs.law_bare_moves.Goals as goal

pub returns : goal.returns
returns c = law_bare_moves_proof
