use Rattle.es_statement_runs.proofs.CatchPatterns.{law_catch_pattern_proof}
use Rattle.es_statement_runs.proofs.law_statement_catch_pattern.Goals as goal

pub returns : goal.returns
returns c = law_catch_pattern_proof
