use Rattle.es_statement_runs.proofs.Spreads.{law_spread_proof}
use Rattle.es_statement_runs.proofs.law_statement_spread.Goals as goal

pub returns : goal.returns
returns c = law_spread_proof
