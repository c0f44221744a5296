use Rattle.es_resolution.proofs.CalledSources.{law_called_proof}
use Rattle.es_resolution.proofs.law_called.Goals as goal

pub returns : goal.returns
returns c = law_called_proof
