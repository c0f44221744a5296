use Rattle.std.proofs.Common.{◌∙◌, ap}
use Rattle.std.proofs.lemmas.Result.{IfOk-weaker}
use Rattle.es_using_modules.specs.ModuleTops.{default_inside}
use Rattle.lower_using.specs.Parts.{of_id}
use Rattle.lower_using_modules.specs.Parts.{making}
use Rattle.lower_using_modules.proofs.Statements.{default-by, found}
use Rattle.lower_using_modules.proofs.declarations.move_inside.Goals as goal

pub returns-then-is_some-2 : goal.returns-then-is_some-2
returns-then-is_some-2 c =
    let x = c.args.context.now in
    let d = c.first_child-then-is_some-2.result in
    IfOk-weaker c.declare_value.result _ _
    (λ made h. h x ∙ (ap (λ i. default_inside (making c.args.default.now x) (of_id i) d) c.id_of-id.ensures ∙ default-by c.args.default.now x c.args.statement d (found c.default_of.result c.is_some-2.result c.default_of.ensures c.is_some-2.ensures c.if-is_some-2.true) c.first_child-then-is_some-2.ensures)) c.declare_value.ensures
