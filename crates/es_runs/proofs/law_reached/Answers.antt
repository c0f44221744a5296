use Rattle.es_runs.proofs.OpenLaws.{law_reached_proof}
use Rattle.es_runs.proofs.law_reached.Goals as goal

pub returns : goal.returns
returns c = law_reached_proof
