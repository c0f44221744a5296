use Rattle.es_rest_rows.proofs.HelperSteps.{law_helpers_unbound_proof}
use Rattle.es_rest_rows.proofs.law_helpers_unbound.Goals as goal

pub returns : goal.returns
returns c = law_helpers_unbound_proof
