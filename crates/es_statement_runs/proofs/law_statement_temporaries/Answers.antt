use Rattle.es_statement_runs.proofs.Temporaries.{law_temporaries_proof}
use Rattle.es_statement_runs.proofs.law_statement_temporaries.Goals as goal

pub returns : goal.returns
returns c = law_temporaries_proof
