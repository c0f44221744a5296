use Rattle.es_valid_names.proofs.FurtherNames.{law_further_rules_proof}
use Rattle.es_valid_names.proofs.law_further_rules.Goals as goal

pub returns : goal.returns
returns c = law_further_rules_proof
