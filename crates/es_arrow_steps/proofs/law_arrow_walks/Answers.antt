use Rattle.es_arrow_steps.proofs.Walks.{law_arrow_walks_proof}
use Rattle.es_arrow_steps.proofs.law_arrow_walks.Goals as goal

pub returns : goal.returns
returns c = law_arrow_walks_proof
