use Rattle.es_rest_runs.proofs.Stores.{law_stores_proof}
use Rattle.es_rest_runs.proofs.law_stored_rows.Goals as goal

pub returns : goal.returns
returns c = law_stores_proof
