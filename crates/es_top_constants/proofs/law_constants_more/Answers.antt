use Rattle.es_top_constants.proofs.ConstantsMore.{law_constants_more_proof}
use Rattle.es_top_constants.proofs.law_constants_more.Goals as goal

pub returns : goal.returns
returns c = law_constants_more_proof
