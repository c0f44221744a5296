use Rattle.es_top_imports.proofs.ImportsMore.{law_imports_more_proof}
use Rattle.es_top_imports.proofs.law_imports_more.Goals as goal

pub returns : goal.returns
returns c = law_imports_more_proof
