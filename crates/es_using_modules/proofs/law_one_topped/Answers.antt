use Rattle.es_using_modules.proofs.TopAgree.{law_one_topped_proof}
use Rattle.es_using_modules.proofs.law_one_topped.Goals as goal

pub returns : goal.returns
returns c = law_one_topped_proof
