use Rattle.es_excluded_keys.proofs.KeysShared.{law_keys_shared_proof}
use Rattle.es_excluded_keys.proofs.law_keys_shared.Goals as goal

pub returns : goal.returns
returns c = law_keys_shared_proof
