use Rattle.std.proofs.Common.{◌∙◌, sym, ap, arith}
use Rattle.es_tree.specs.Views.{plain}
use Rattle.lower_temporaries.specs.TemplateParts.{is_cooked_part}
use Rattle.lower_temporaries.proofs.ReadAgain.{some_fields_fail}
use Rattle.lower_temporaries.proofs.readings.is_cooked_part.Goals as goal

pub returns-else-is_empty : goal.returns-else-is_empty
returns-else-is_empty c =
    let x = c.node.inside in
    c.if-is_empty.false ∙ sym (some_fields_fail is_cooked_part c.args.node.now x.id x.span x.kind x.fields.items _ _ c.node.view_is (λ gs. ap (λ k. is_cooked_part (plain x.id x.span k gs)) c.in-TemplateElement.is) (omega (arith, x.fields.ok.0)) (sym c.is_empty.ensures ∙ c.if-is_empty.false))
