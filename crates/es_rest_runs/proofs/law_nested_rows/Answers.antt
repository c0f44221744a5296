use Rattle.es_rest_runs.proofs.Nests.{law_nests_proof}
use Rattle.es_rest_runs.proofs.law_nested_rows.Goals as goal

pub returns : goal.returns
returns c = law_nests_proof
