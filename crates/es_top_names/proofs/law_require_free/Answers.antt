use Rattle.es_top_names.proofs.RequireFree.{law_require_free_proof}
use Rattle.es_top_names.proofs.law_require_free.Goals as goal

pub returns : goal.returns
returns c = law_require_free_proof
