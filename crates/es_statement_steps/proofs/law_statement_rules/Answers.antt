use Rattle.es_statement_steps.proofs.StatementLaw.{law_statement_rules_proof}
use Rattle.es_statement_steps.proofs.law_statement_rules.Goals as goal

pub returns : goal.returns
returns c = law_statement_rules_proof
