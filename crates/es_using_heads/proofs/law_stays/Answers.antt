use Rattle.es_using_heads.proofs.HeadStays.{law_stays_proof}
use Rattle.es_using_heads.proofs.law_stays.Goals as goal

pub returns : goal.returns
returns c = law_stays_proof
