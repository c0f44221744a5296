use Rattle.std.proofs.Common.{◌≡◌, ◌∙◌, ap, length, subst, sym}
use Rattle.std.specs.Prelude.{◌==◌}
use Rattle.es_tree.specs.Heads.{head_of, label}
use Rattle.es_tree.specs.Views.{plain, plain_fields}
use Rattle.es_tree.specs.declared.kind.Kind.TheVariants.{StringLiteral as k-StringLiteral}
use Rattle.lower_excluded_keys.specs.Parts.{is_string}
use Rattle.lower_excluded_keys.proofs.Calls.{string-alone}
use Rattle.lower_excluded_keys.proofs.places.is_string.Goals as goal

pub returns-in-StringLiteral : goal.returns-in-StringLiteral
returns-in-StringLiteral c =
    let a = c.node.inside in
    let x = c.in-StringLiteral in
    c.is_empty.ensures ∙ ap (λ n. n == 0) a.fields.ok.0 ∙ subst (λ v. (length a.fields.items == 0) ≡ is_string v) c.node.view_is
    (subst (λ k. (length a.fields.items == 0) ≡ is_string (plain a.id a.span k (plain_fields a.fields.items))) (sym x.is) (string-alone (label a.id a.span (head_of (k-StringLiteral x.value))) a.fields.items))
