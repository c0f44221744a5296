use Rattle.es_runs.proofs.StaticLaws.{law_static_rules_proof}
use Rattle.es_runs.proofs.law_static_rules.Goals as goal

pub returns : goal.returns
returns c = law_static_rules_proof
