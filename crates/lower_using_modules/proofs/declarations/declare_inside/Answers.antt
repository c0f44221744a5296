use Rattle.std.proofs.Common.{◌∙◌}
use Rattle.std.proofs.lemmas.Result.{IfOk-weaker}
use Rattle.lower_using_modules.proofs.Statements.{class-by, found}
use Rattle.lower_using_modules.proofs.declarations.declare_inside.Goals as goal

pub returns-then-is_some : goal.returns-then-is_some
returns-then-is_some c =
    let x = c.args.context.now in
    IfOk-weaker c.declare_value.result _ _ (λ made h. h x ∙ class-by c.args.default.now x c.id_of-id.result.0 c.args.statement (found c.class_name.result c.is_some.result c.class_name.ensures c.is_some.ensures c.if-is_some.true)) c.declare_value.ensures
