use Rattle.es_conditions.proofs.ChainRows.{law_chains_proof}
use Rattle.es_conditions.proofs.law_chains.Goals as goal

pub returns : goal.returns
returns c = law_chains_proof
