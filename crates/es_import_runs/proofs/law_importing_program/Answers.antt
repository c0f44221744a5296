use Rattle.es_import_runs.proofs.Programs.{law_importing_program_proof}
use Rattle.es_import_runs.proofs.law_importing_program.Goals as goal

pub returns : goal.returns
returns c = law_importing_program_proof
