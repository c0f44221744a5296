use Rattle.es_pattern_moves.proofs.MovedStays.{law_stays_proof}
use Rattle.es_pattern_moves.proofs.law_stays.Goals as goal

pub returns : goal.returns
returns c = law_stays_proof
