use Rattle.es_split_runs.proofs.Stored.{law_stored_proof}
use Rattle.es_split_runs.proofs.law_statement_stored.Goals as goal

pub returns : goal.returns
returns c = law_stored_proof
