use Rattle.es_import_runs.proofs.Sources.{law_imported_program_proof}
use Rattle.es_import_runs.proofs.law_imported_program.Goals as goal

pub returns : goal.returns
returns c = law_imported_program_proof
