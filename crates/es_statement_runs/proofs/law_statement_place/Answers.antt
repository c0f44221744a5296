use Rattle.es_statement_runs.proofs.RunLaws.{law_place_proof}
use Rattle.es_statement_runs.proofs.law_statement_place.Goals as goal

pub returns : goal.returns
returns c = law_place_proof
