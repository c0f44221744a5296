use Rattle.es_statement_runs.proofs.Composing.{law_then_proof}
use Rattle.es_statement_runs.proofs.law_then.Goals as goal

pub returns : goal.returns
returns c = law_then_proof
