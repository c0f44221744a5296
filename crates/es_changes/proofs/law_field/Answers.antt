use Rattle.es_steps.specs.CoreRules.{rule_under}
use Rattle.es_changes.proofs.Lawful.{law_lawful_proof}
use Rattle.es_changes.proofs.InField.{field-laws}
use Rattle.es_changes.proofs.law_field.Goals as goal

pub returns : goal.returns
returns c o = field-laws (rule_under o) (law_lawful_proof o)
