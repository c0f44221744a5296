use Rattle.es_reached.proofs.Sources.{law_bare_source_proof}
use Rattle.es_reached.proofs.law_bare_source.Goals as goal

pub returns : goal.returns
returns c = law_bare_source_proof
