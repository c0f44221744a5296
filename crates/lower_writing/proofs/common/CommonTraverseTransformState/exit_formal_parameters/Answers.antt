use Rattle.lower_writing.proofs.ListHooks.{exited-parameters}
use Rattle.lower_writing.proofs.common.CommonTraverseTransformState.exit_formal_parameters.Goals as goal

pub returns-clause-exited : goal.returns-clause-exited
returns-clause-exited c names = exited-parameters _ _ _
