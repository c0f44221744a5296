-- What a program becomes where `using` is lowered is reached by steps of the rules of `using`.
use Rattle.es_using_rows.specs.Laws.{LawUsedSteps}
use Rattle.es_using_rows.proofs.SourceUnbound.{source-unbound}
use Rattle.es_using_rows.proofs.UsedReached.{used-steps}
use Rattle.es_using_rows.proofs.UsingWalks.{walks}

pub law_used_steps_proof : LawUsedSteps
law_used_steps_proof = used-steps walks source-unbound
