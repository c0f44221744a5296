use Rattle.es_resolution.proofs.Sources.{law_single_proof}
use Rattle.es_resolution.proofs.law_single.Goals as goal

pub returns : goal.returns
returns c = law_single_proof
