use Rattle.es_rest_runs.proofs.Takes.{law_takes_proof}
use Rattle.es_rest_runs.proofs.law_taken_rows.Goals as goal

pub returns : goal.returns
returns c = law_takes_proof
