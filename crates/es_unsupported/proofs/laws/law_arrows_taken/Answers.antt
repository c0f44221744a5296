use Rattle.es_unsupported.proofs.ArrowsTaken.{law_arrows_taken_proof}
use Rattle.es_unsupported.proofs.laws.law_arrows_taken.Goals as goal

pub returns : goal.returns
returns c = law_arrows_taken_proof
