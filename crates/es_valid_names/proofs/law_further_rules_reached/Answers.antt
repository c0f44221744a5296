use Rattle.es_valid_names.proofs.FurtherNames.{law_further_rules_reached_proof}
use Rattle.es_valid_names.proofs.law_further_rules_reached.Goals as goal

pub returns : goal.returns
returns c = law_further_rules_reached_proof
