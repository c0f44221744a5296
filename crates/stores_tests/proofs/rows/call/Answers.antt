use Rattle.lower_helpers.proofs.ImportIds.{ids-loaded}
use Rattle.stores_tests.proofs.rows.call.Goals as goal

pub returns-in-Ok-clause-few : goal.returns-in-Ok-clause-few
returns-in-Ok-clause-few c =
    let called = c.in-Ok.ensures.called in
    ids-loaded _ 1 c.args.stores.now c.helper_call_expr.new.stores c.args.ctx.now c.helper_call_expr.new.ctx called.callee called.loads
