use Rattle.es_excluded_keys.proofs.NoConstructs.{law_no_constructs_proof}
use Rattle.es_excluded_keys.proofs.law_no_constructs.Goals as goal

pub returns : goal.returns
returns c = law_no_constructs_proof
