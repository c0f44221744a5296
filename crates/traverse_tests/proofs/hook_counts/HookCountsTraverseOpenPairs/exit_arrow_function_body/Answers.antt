use Rattle.std.proofs.Common.{sym, ◌∙◌}
use Rattle.traverse_tests.proofs.Pairs.{body_pair, exited_body, one_less}
use Rattle.traverse_tests.proofs.hook_counts.HookCountsTraverseOpenPairs.exit_arrow_function_body.Goals as goal

pub returns-clause-exited : goal.returns-clause-exited
returns-clause-exited c = exited_body _ _ _ (body_pair _ _ _ (sym c.is_statement_body.ensures ∙ c.if-is_statement_body.false) (one_less c.args.ctx.now.state.pairs c.requires.ready.pair))
