use Rattle.es_using_heads.proofs.HeadSize.{law_headed_size_proof}
use Rattle.es_using_heads.proofs.law_headed_size.Goals as goal

pub returns : goal.returns
returns c = law_headed_size_proof
