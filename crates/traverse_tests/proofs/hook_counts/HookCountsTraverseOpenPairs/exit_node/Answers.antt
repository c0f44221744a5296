use Rattle.traverse_tests.proofs.Pairs.{exited_none}
use Rattle.traverse_tests.proofs.hook_counts.HookCountsTraverseOpenPairs.exit_node.Goals as goal

pub returns-clause-exited : goal.returns-clause-exited
returns-clause-exited c names = exited_none _ _ _
