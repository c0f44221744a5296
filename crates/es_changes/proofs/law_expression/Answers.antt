use Rattle.es_changes.proofs.Expressions.{law_expression_proof}
use Rattle.es_changes.proofs.law_expression.Goals as goal

pub returns : goal.returns
returns c = law_expression_proof
