use Rattle.es_statement_runs.proofs.CoreSenses.{core_meaning}
use Rattle.es_statement_runs.proofs.law_core_meaning.Goals as goal

pub returns : goal.returns
returns c = core_meaning
