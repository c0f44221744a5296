use Rattle.es_resolution.proofs.Sources.{law_named_proof}
use Rattle.es_resolution.proofs.law_named.Goals as goal

pub returns : goal.returns
returns c = law_named_proof
