use Rattle.es_using_modules.proofs.TopLaws.{law_topped_proof}
use Rattle.es_using_modules.proofs.law_topped.Goals as goal

pub returns : goal.returns
returns c = law_topped_proof
