use Rattle.lower_writing.proofs.ListHooks.{entered-parameters}
use Rattle.lower_writing.proofs.common.CommonTraverseTransformState.enter_formal_parameters.Goals as goal

pub returns-clause-entered : goal.returns-clause-entered
returns-clause-entered c names = entered-parameters _ _ _
