use Rattle.es_statement_runs.proofs.Heads.{law_head_proof}
use Rattle.es_statement_runs.proofs.law_statement_head.Goals as goal

pub returns : goal.returns
returns c = law_head_proof
