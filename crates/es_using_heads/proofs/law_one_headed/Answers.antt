use Rattle.es_using_heads.proofs.HeadAgree.{law_one_headed_proof}
use Rattle.es_using_heads.proofs.law_one_headed.Goals as goal

pub returns : goal.returns
returns c = law_one_headed_proof
