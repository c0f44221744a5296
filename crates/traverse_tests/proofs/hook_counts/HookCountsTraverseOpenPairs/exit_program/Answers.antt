use Rattle.traverse_tests.proofs.Pairs.{exited_program, nothing_on_top}
use Rattle.traverse_tests.proofs.hook_counts.HookCountsTraverseOpenPairs.exit_program.Goals as goal

pub returns-clause-exited : goal.returns-clause-exited
returns-clause-exited c names = exited_program _ _ (nothing_on_top c.args._ctx.now.state.pairs)
