use Rattle.es_resolution.proofs.Sources.{law_resolved_proof}
use Rattle.es_resolution.proofs.law_resolved.Goals as goal

pub returns : goal.returns
returns c = law_resolved_proof
