use Rattle.es_steps.specs.CoreRules.{rule_under}
use Rattle.es_changes.proofs.Lawful.{law_lawful_proof}
use Rattle.es_changes.proofs.ProgramLaws.{program-laws}
use Rattle.es_changes.proofs.law_program.Goals as goal

pub returns : goal.returns
returns c o = program-laws (rule_under o) (law_lawful_proof o)
