use Rattle.es_constructor_this.proofs.SetPrograms.{set_rules_proof}
use Rattle.es_constructor_this.proofs.law_set_rules.Goals as goal

pub returns : goal.returns
returns c = set_rules_proof
