use Rattle.es_valid_arrows.proofs.NamedPrograms.{law_arrows_reached_proof}
use Rattle.es_valid_arrows.proofs.law_arrows_reached.Goals as goal

pub returns : goal.returns
returns c = law_arrows_reached_proof
