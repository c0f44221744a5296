use Rattle.es_changes.proofs.Lawful.{law_lawful_proof}
use Rattle.es_changes.proofs.law_lawful.Goals as goal

pub returns : goal.returns
returns c = law_lawful_proof
