use Rattle.es_runs.proofs.Laws.{law_fresh_proof}
use Rattle.es_runs.proofs.law_fresh.Goals as goal

pub returns : goal.returns
returns c = law_fresh_proof
