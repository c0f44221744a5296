use Rattle.es_helper_imports.proofs.Imported.{law_imported_proof}
use Rattle.es_helper_imports.proofs.law_imported.Goals as goal

pub returns : goal.returns
returns c = law_imported_proof
