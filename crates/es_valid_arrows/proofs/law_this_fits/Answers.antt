use Rattle.es_valid_arrows.proofs.ThisReads.{law_this_fits_proof}
use Rattle.es_valid_arrows.proofs.law_this_fits.Goals as goal

pub returns : goal.returns
returns c = law_this_fits_proof
