use Rattle.es_using_rows.proofs.UsedStays.{law_stays_proof}
use Rattle.es_using_rows.proofs.law_stays.Goals as goal

pub returns : goal.returns
returns c = law_stays_proof
