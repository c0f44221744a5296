use Rattle.es_rest_runs.proofs.StoredSteps.{law_no_name_excluded_proof}
use Rattle.es_rest_runs.proofs.law_no_name_excluded.Goals as goal

pub returns : goal.returns
returns c = law_no_name_excluded_proof
