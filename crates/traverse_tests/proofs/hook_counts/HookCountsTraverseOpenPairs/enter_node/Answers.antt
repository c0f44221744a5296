use Rattle.traverse_tests.proofs.Pairs.{entered_as}
use Rattle.traverse_tests.proofs.hook_counts.HookCountsTraverseOpenPairs.enter_node.Goals as goal

pub returns-clause-entered : goal.returns-clause-entered
returns-clause-entered c names = entered_as c.args.hook c.args._site _ _
