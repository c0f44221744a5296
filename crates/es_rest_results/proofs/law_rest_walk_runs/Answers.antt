use Rattle.es_rest_results.proofs.Results.{law_rest_walk_runs_proof}
use Rattle.es_rest_results.proofs.law_rest_walk_runs.Goals as goal

pub returns : goal.returns
returns c = law_rest_walk_runs_proof
