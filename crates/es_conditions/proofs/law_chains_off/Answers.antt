use Rattle.es_conditions.proofs.ChainRows.{law_chains_off_proof}
use Rattle.es_conditions.proofs.law_chains_off.Goals as goal

pub returns : goal.returns
returns c = law_chains_off_proof
