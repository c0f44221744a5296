use Rattle.es_unsupported.proofs.Built.{law_built_proof}
use Rattle.es_unsupported.proofs.laws.law_built.Goals as goal

pub returns : goal.returns
returns c = law_built_proof
