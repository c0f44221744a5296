use Rattle.es_split_runs.proofs.Taken.{law_keyed_proof}
use Rattle.es_split_runs.proofs.law_statement_keyed.Goals as goal

pub returns : goal.returns
returns c = law_keyed_proof
