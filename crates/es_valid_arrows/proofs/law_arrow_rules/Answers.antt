use Rattle.es_valid_arrows.proofs.NamedPrograms.{law_arrow_rules_proof}
use Rattle.es_valid_arrows.proofs.law_arrow_rules.Goals as goal

pub returns : goal.returns
returns c = law_arrow_rules_proof
