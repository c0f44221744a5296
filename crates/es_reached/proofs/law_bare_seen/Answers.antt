use Rattle.es_reached.proofs.Sources.{law_bare_seen_proof}
use Rattle.es_reached.proofs.law_bare_seen.Goals as goal

pub returns : goal.returns
returns c = law_bare_seen_proof
