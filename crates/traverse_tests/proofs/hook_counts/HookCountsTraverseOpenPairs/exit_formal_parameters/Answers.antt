use Rattle.traverse_tests.proofs.Pairs.{exited_parameters}
use Rattle.traverse_tests.proofs.hook_counts.HookCountsTraverseOpenPairs.exit_formal_parameters.Goals as goal

pub returns-clause-exited : goal.returns-clause-exited
returns-clause-exited c names = exited_parameters _ _
