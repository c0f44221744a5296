use Rattle.es_changes.proofs.StillFits.{law_still_fits_proof}
use Rattle.es_changes.proofs.law_still_fits.Goals as goal

pub returns : goal.returns
returns c = law_still_fits_proof
