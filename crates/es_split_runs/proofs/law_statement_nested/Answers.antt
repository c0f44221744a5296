use Rattle.es_split_runs.proofs.Nested.{law_nested_proof}
use Rattle.es_split_runs.proofs.law_statement_nested.Goals as goal

pub returns : goal.returns
returns c = law_nested_proof
