use Rattle.es_starts.proofs.FirstFits.{law_fits_proof}
use Rattle.es_starts.proofs.law_fits.Goals as goal

pub returns : goal.returns
returns c = law_fits_proof
