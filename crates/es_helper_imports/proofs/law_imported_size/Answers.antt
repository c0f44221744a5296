use Rattle.es_helper_imports.proofs.Sizes.{law_imported_size_proof}
use Rattle.es_helper_imports.proofs.law_imported_size.Goals as goal

pub returns : goal.returns
returns c = law_imported_size_proof
