use Rattle.es_excluded_keys.proofs.Sizes.{law_shared_size_proof}
use Rattle.es_excluded_keys.proofs.law_shared_size.Goals as goal

pub returns : goal.returns
returns c = law_shared_size_proof
