use Rattle.std.proofs.Common.{sym, ◌∙◌}
use Rattle.traverse_tests.proofs.Pairs.{entered_list, inner, no_pair, one_more, one_pair, outermost}
use Rattle.traverse_tests.proofs.hook_counts.HookCountsTraverseOpenPairs.enter_statements.Goals as goal

pub returns-in_default-clause-entered : goal.returns-in_default-clause-entered
returns-in_default-clause-entered c names = entered_list _ _ _ (no_pair _ (outermost _ (sym c.ancestor.ensures ∙ c.in_default.is)))

pub returns-clause-entered : goal.returns-clause-entered
returns-clause-entered c names = entered_list _ _ _ (one_pair _ _ (inner _ c.in-Some._around (sym c.ancestor.ensures ∙ c.in-Some.is)) (one_more c.args.ctx.now.state.pairs _ c.in_ok-open.ensures))
