use Rattle.es_resolution.proofs.AgreeingMarks.{law_references_proof}
use Rattle.es_resolution.proofs.law_references.Goals as goal

pub returns : goal.returns
returns c = law_references_proof
