use Rattle.es_conditions.proofs.Catches.{law_catch_proof}
use Rattle.es_conditions.proofs.law_catch.Goals as goal

pub returns : goal.returns
returns c = law_catch_proof
