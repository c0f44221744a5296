use Rattle.es_import_runs.proofs.ImportingResults.{law_importing_result_proof}
use Rattle.es_import_runs.proofs.law_importing_result.Goals as goal

pub returns : goal.returns
returns c = law_importing_result_proof
