use Rattle.es_valid_arrows.proofs.FitPrograms.{law_arrows_fit_proof}
use Rattle.es_valid_arrows.proofs.law_arrows_fit.Goals as goal

pub returns : goal.returns
returns c = law_arrows_fit_proof
