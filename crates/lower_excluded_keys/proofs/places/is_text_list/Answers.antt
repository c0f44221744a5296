use Rattle.std.proofs.Common.{◌≡◌, ◌∙◌, ap, subst, sym}
use Rattle.es_tree.specs.Heads.{head_of, label}
use Rattle.es_tree.specs.Views.{plain, plain_fields}
use Rattle.es_tree.specs.declared.kind.Kind.TheVariants.{ArrayExpression as k-ArrayExpression}
use Rattle.es_helper_calls.specs.TextLists.{is_text_list}
use Rattle.lower_excluded_keys.specs.Parts.{hold_texts}
use Rattle.lower_excluded_keys.proofs.Calls.{list-holds}
use Rattle.lower_excluded_keys.proofs.places.is_text_list.Goals as goal

pub returns-in-ArrayExpression : goal.returns-in-ArrayExpression
returns-in-ArrayExpression c =
    let a = c.node.inside in
    let fs = plain_fields a.fields.items in
    c.hold_texts.ensures ∙ ap (λ gs. hold_texts (plain_fields gs)) c.as_slice.ensures.value
    ∙ subst (λ v. hold_texts fs ≡ is_text_list v) c.node.view_is (subst (λ k. hold_texts fs ≡ is_text_list (plain a.id a.span k fs)) (sym c.in-ArrayExpression.is) (list-holds (label a.id a.span (head_of k-ArrayExpression)) fs))
