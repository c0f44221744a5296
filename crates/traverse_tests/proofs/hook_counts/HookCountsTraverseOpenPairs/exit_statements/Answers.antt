use Rattle.std.proofs.Common.{sym, ◌∙◌}
use Rattle.traverse_tests.proofs.Pairs.{exited_list, inner, no_pair, one_less, one_pair, outermost}
use Rattle.traverse_tests.proofs.hook_counts.HookCountsTraverseOpenPairs.exit_statements.Goals as goal

pub returns-in_default-clause-exited : goal.returns-in_default-clause-exited
returns-in_default-clause-exited c names = exited_list _ _ _ (no_pair _ (outermost _ (sym c.ancestor.ensures ∙ c.in_default.is)))

pub returns-clause-exited : goal.returns-clause-exited
returns-clause-exited c names = exited_list _ _ _ (one_pair _ _ (inner _ c.in-Some._around (sym c.ancestor.ensures ∙ c.in-Some.is)) (one_less c.args.ctx.now.state.pairs c.requires.ready.pair))
