use Rattle.es_resolution.proofs.WrittenSources.{law_written_proof}
use Rattle.es_resolution.proofs.law_written.Goals as goal

pub returns : goal.returns
returns c = law_written_proof
