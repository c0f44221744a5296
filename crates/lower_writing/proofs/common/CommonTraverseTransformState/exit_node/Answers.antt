use Rattle.lower_writing.proofs.ListHooks.{exited-none}
use Rattle.lower_writing.proofs.common.CommonTraverseTransformState.exit_node.Goals as goal

pub returns-clause-exited : goal.returns-clause-exited
returns-clause-exited c names = exited-none _ _ _ _
