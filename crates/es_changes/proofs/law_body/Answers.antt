use Rattle.es_steps.specs.CoreRules.{rule_under}
use Rattle.es_changes.proofs.Lawful.{law_lawful_proof}
use Rattle.es_changes.proofs.BodyLaws.{body-laws}
use Rattle.es_changes.proofs.law_body.Goals as goal

pub returns : goal.returns
returns c o = body-laws (rule_under o) (law_lawful_proof o)
