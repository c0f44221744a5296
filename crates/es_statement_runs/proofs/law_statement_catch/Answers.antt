use Rattle.es_statement_runs.proofs.Catches.{law_catch_proof}
use Rattle.es_statement_runs.proofs.law_statement_catch.Goals as goal

pub returns : goal.returns
returns c = law_catch_proof
