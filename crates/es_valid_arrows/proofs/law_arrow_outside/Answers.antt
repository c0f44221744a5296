use Rattle.es_valid_arrows.proofs.ArrowReads.{law_arrow_outside_proof}
use Rattle.es_valid_arrows.proofs.law_arrow_outside.Goals as goal

pub returns : goal.returns
returns c = law_arrow_outside_proof
