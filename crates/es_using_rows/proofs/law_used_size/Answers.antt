use Rattle.es_using_rows.proofs.UsedSize.{law_used_size_proof}
use Rattle.es_using_rows.proofs.law_used_size.Goals as goal

pub returns : goal.returns
returns c = law_used_size_proof
