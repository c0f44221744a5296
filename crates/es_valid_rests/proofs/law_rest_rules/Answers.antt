use Rattle.es_valid_rests.proofs.RestPrograms.{law_rest_rules_proof}
use Rattle.es_valid_rests.proofs.law_rest_rules.Goals as goal

pub returns : goal.returns
returns c = law_rest_rules_proof
