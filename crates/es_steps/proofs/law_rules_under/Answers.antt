use Rattle.es_steps.proofs.CoreLaws.{law_rules_under_proof}
use Rattle.es_steps.proofs.law_rules_under.Goals as goal

pub returns : goal.returns
returns c = law_rules_under_proof
