use Rattle.es_statement_runs.proofs.BareVars.{law_vars_proof}
use Rattle.es_statement_runs.proofs.law_statement_vars.Goals as goal

pub returns : goal.returns
returns c = law_vars_proof
