use Rattle.es_split_runs.proofs.Taken.{law_taken_proof}
use Rattle.es_split_runs.proofs.law_statement_taken.Goals as goal

pub returns : goal.returns
returns c = law_taken_proof
