use Rattle.es_starts.proofs.BoundNames.{law_binds_names_proof}
use Rattle.es_starts.proofs.law_binds_names.Goals as goal

pub returns : goal.returns
returns c = law_binds_names_proof
