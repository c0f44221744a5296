use Rattle.es_rest_runs.proofs.LiteralKeys.{law_literal_keys_proof}
use Rattle.es_rest_runs.proofs.law_literal_keys.Goals as goal

pub returns : goal.returns
returns c = law_literal_keys_proof
