use Rattle.es_steps.specs.CoreRules.{rule_under}
use Rattle.es_changes.proofs.Lawful.{law_lawful_proof}
use Rattle.es_changes.proofs.FieldLaws.{fields-laws}
use Rattle.es_changes.proofs.law_fields.Goals as goal

pub returns : goal.returns
returns c o = fields-laws (rule_under o) (law_lawful_proof o)
