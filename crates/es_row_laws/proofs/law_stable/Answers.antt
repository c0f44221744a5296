use Rattle.es_row_laws.proofs.Stable.{law_stable_proof}
use Rattle.es_row_laws.proofs.law_stable.Goals as goal

pub returns : goal.returns
returns c = law_stable_proof
