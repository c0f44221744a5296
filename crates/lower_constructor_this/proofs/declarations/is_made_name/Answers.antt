use Rattle.std.proofs.Common.{◌≡◌, ◌∙◌, ap, false, subst, sym}
use Rattle.std.specs.Prelude.{◌==◌}
use Rattle.es_tree.specs.Fresh.{is_among}
use Rattle.es_tree.specs.Heads.{head_of, label}
use Rattle.es_tree.specs.Views.{plain, plain_fields}
use Rattle.es_tree.specs.declared.kind.Kind.TheVariants.{Identifier as k-Identifier}
use Rattle.es_scope.specs.Contexts.{made_of}
use Rattle.es_set_this.specs.ConstructorThis.{is_made_name}
use Rattle.lower_constructor_this.proofs.Taken.{no-name}
use Rattle.lower_constructor_this.proofs.declarations.is_made_name.Goals as goal

pub returns-else-is_empty : goal.returns-else-is_empty
returns-else-is_empty g c =
    let a = c.node.inside in
    let x = c.in-Identifier in
    let made = is_among (made_of c.args.ctx.now) in
    c.if-is_empty.false ∙ subst (λ v. false ≡ is_made_name made v) c.node.view_is
    (subst (λ k. false ≡ is_made_name made (plain a.id a.span k (plain_fields a.fields.items))) (sym x.is) (no-name made (label a.id a.span (head_of (k-Identifier x.name x.reference x.symbol))) a.fields.items (ap (λ n. n == 0) (sym a.fields.ok.0) ∙ sym c.is_empty.ensures ∙ c.if-is_empty.false)))
