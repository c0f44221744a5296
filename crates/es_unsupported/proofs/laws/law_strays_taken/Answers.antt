use Rattle.es_unsupported.proofs.StraysTaken.{law_strays_taken_proof}
use Rattle.es_unsupported.proofs.laws.law_strays_taken.Goals as goal

pub returns : goal.returns
returns c = law_strays_taken_proof
