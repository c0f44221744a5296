use Rattle.es_valid_steps.proofs.Visits.{law_among_proof}
use Rattle.es_valid_steps.proofs.law_among.Goals as goal

pub returns : goal.returns
returns c = law_among_proof
