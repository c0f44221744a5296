use Rattle.es_pattern_moves.proofs.MovesAreRests.{law_moves_are_rests_proof}
use Rattle.es_pattern_moves.proofs.law_moves_are_rests.Goals as goal

pub returns : goal.returns
returns c = law_moves_are_rests_proof
