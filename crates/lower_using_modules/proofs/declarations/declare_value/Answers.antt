use Rattle.std.proofs.Common.{◌∙◌, ap}
use Rattle.std.proofs.lemmas.Result.{IfOk-weaker}
use Rattle.es_tree.specs.Tree.{label_of}
use Rattle.lower_using.specs.Parts.{variable_with}
use Rattle.lower_using_modules.proofs.Statements.{value-by}
use Rattle.lower_using_modules.proofs.declarations.declare_value.Goals as goal

pub returns : goal.returns
returns c =
    let y = c.in_ok-binding.binding in
    IfOk-weaker c.new_variable.result _ _
    (λ made h context. h ∙ (ap (λ i. variable_with i y c.class_value.result) c.id_of.ensures ∙ (ap (λ v. variable_with (label_of y).id y v) c.class_value.ensures ∙ value-by c.args.default.now context c.args.id.0 c.args.exported y (c.in_ok-binding.ensures context)))) c.new_variable.ensures
