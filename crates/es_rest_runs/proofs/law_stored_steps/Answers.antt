use Rattle.es_rest_runs.proofs.StoredSteps.{law_stores_in_row_proof}
use Rattle.es_rest_runs.proofs.law_stored_steps.Goals as goal

pub returns : goal.returns
returns c = law_stores_in_row_proof
