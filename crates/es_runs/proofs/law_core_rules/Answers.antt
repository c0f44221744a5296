use Rattle.es_runs.proofs.OpenLaws.{law_core_rules_proof}
use Rattle.es_runs.proofs.law_core_rules.Goals as goal

pub returns : goal.returns
returns c = law_core_rules_proof
