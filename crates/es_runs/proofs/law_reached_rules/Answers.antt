use Rattle.es_runs.proofs.StaticLaws.{law_reached_rules_proof}
use Rattle.es_runs.proofs.law_reached_rules.Goals as goal

pub returns : goal.returns
returns c = law_reached_rules_proof
