use Rattle.es_valid_arrows.proofs.FitBare.{law_bare_fits_proof}
use Rattle.es_valid_arrows.proofs.law_bare_fits.Goals as goal

pub returns : goal.returns
returns c = law_bare_fits_proof
