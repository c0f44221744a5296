use Rattle.es_rest_rows.proofs.DeclaredRests.{law_none_declared_proof}
use Rattle.es_rest_rows.proofs.law_none_declared.Goals as goal

pub returns : goal.returns
returns c = law_none_declared_proof
