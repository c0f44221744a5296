use Rattle.es_rest_rows.proofs.RestsMakeNone.{law_rests_make_none_proof}
use Rattle.es_rest_rows.proofs.law_rests_make_none.Goals as goal

pub returns : goal.returns
returns c = law_rests_make_none_proof
