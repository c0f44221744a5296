use Rattle.es_using_rows.proofs.UsedAgree.{law_one_used_proof}
use Rattle.es_using_rows.proofs.law_one_used.Goals as goal

pub returns : goal.returns
returns c = law_one_used_proof
