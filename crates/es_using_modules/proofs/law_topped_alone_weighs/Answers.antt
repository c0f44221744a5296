use Rattle.es_using_modules.proofs.TopWeights.{law_topped_alone_weighs_proof}
use Rattle.es_using_modules.proofs.law_topped_alone_weighs.Goals as goal

pub returns : goal.returns
returns c = law_topped_alone_weighs_proof
