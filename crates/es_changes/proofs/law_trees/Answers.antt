use Rattle.es_steps.specs.CoreRules.{rule_under}
use Rattle.es_changes.proofs.Lawful.{law_lawful_proof}
use Rattle.es_changes.proofs.TreeLaws.{trees-laws}
use Rattle.es_changes.proofs.law_trees.Goals as goal

pub returns : goal.returns
returns c o = trees-laws (rule_under o) (law_lawful_proof o)
