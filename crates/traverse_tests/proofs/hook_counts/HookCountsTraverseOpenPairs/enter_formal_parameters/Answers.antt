use Rattle.traverse_tests.proofs.Pairs.{entered_parameters}
use Rattle.traverse_tests.proofs.hook_counts.HookCountsTraverseOpenPairs.enter_formal_parameters.Goals as goal

pub returns-clause-entered : goal.returns-clause-entered
returns-clause-entered c names = entered_parameters _ _
