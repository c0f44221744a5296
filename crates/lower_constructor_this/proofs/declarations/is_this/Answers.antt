use Rattle.std.proofs.Common.{◌≡◌, ◌∙◌, ap, length, subst, sym}
use Rattle.std.specs.Prelude.{◌==◌}
use Rattle.es_tree.specs.Heads.{head_of, label}
use Rattle.es_tree.specs.Views.{plain, plain_fields}
use Rattle.es_tree.specs.declared.kind.Kind.TheVariants.{ThisExpression as k-ThisExpression}
use Rattle.es_set_this.specs.ConstructorThis.{is_this}
use Rattle.lower_constructor_this.proofs.Taken.{this-alone}
use Rattle.lower_constructor_this.proofs.declarations.is_this.Goals as goal

pub returns-in-ThisExpression : goal.returns-in-ThisExpression
returns-in-ThisExpression c =
    let a = c.node.inside in
    c.is_empty.ensures ∙ ap (λ n. n == 0) a.fields.ok.0 ∙ subst (λ v. (length a.fields.items == 0) ≡ is_this v) c.node.view_is
    (subst (λ k. (length a.fields.items == 0) ≡ is_this (plain a.id a.span k (plain_fields a.fields.items))) (sym c.in-ThisExpression.is) (this-alone (label a.id a.span (head_of k-ThisExpression)) a.fields.items))
