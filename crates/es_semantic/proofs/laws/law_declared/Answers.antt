use Rattle.es_semantic.proofs.DeclaredPrograms.{law_declared_proof}
use Rattle.es_semantic.proofs.laws.law_declared.Goals as goal

pub returns : goal.returns
returns c = law_declared_proof
