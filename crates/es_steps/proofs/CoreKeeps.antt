-- Steps of the core rules keep programs well bound, and each name its binding.
use Rattle.es_steps.specs.CoreLaws.{LawCoreSteps, LawCoreReached, LawCoreBindings}
use Rattle.es_steps.specs.CoreRules.{CoreRule}
use Rattle.es_steps.proofs.CoreLaws.{core-rule-lawful, core-rule-writes}
use Rattle.es_steps.proofs.Reached.{bindings-keep}
use Rattle.es_steps.proofs.StepsKept.{steps-keep, reached-keeps}

pub law_core_steps_proof : LawCoreSteps
law_core_steps_proof o = steps-keep (CoreRule o) (core-rule-lawful o) (core-rule-writes o)

pub law_core_reached_proof : LawCoreReached
law_core_reached_proof o = reached-keeps (CoreRule o) (core-rule-lawful o) (core-rule-writes o)

pub law_core_bindings_proof : LawCoreBindings
law_core_bindings_proof o = bindings-keep (CoreRule o) (core-rule-lawful o) (core-rule-writes o)
