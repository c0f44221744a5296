use Rattle.es_rest_rows.proofs.StraySteps.{law_strays_not_made_proof}
use Rattle.es_rest_rows.proofs.law_strays_not_made.Goals as goal

pub returns : goal.returns
returns c = law_strays_not_made_proof
