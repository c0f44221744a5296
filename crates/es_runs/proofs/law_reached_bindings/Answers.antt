use Rattle.es_runs.proofs.OpenLaws.{law_reached_bindings_proof}
use Rattle.es_runs.proofs.law_reached_bindings.Goals as goal

pub returns : goal.returns
returns c = law_reached_bindings_proof
