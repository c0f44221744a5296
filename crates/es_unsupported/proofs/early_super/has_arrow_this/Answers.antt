use Rattle.std.proofs.Common.{◌≡◌, ◌∙◌, ap, arith, refl, sym}
use Rattle.es_tree.specs.Tree.{fields_of}
use Rattle.es_tree.specs.Views.{plain_fields}
use Rattle.es_using_nodes.proofs.FieldCounts.{fewer-than-three}
use Rattle.es_unsupported.specs.EarlySuper.{has_arrow_this}
use Rattle.es_unsupported.proofs.early_super.has_arrow_this.Goals as goal

pub returns-in_default : goal.returns-in_default
returns-in_default c =
    let parts : plain_fields c.as_slice.result.now ≡ fields_of c.args.function.now = ap plain_fields c.as_slice.ensures.value ∙ ap fields_of c.function.view_is in
    sym (fewer-than-three has_arrow_this refl (λ f. refl) (λ f g. refl) c.as_slice.result.now (omega (arith, c.in_default.len_below))) ∙ ap has_arrow_this parts
