use Rattle.std.proofs.Common.{◌≡◌, ◌∙◌, Bool, ap, sym}
use Rattle.es_tree.specs.Tree.{Tree, fields_of, kind_of, label_of}
use Rattle.es_tree.specs.Views.{plain, plain_fields}
use Rattle.es_tree.specs.declared.kind.Kind.{Kind as NodeKind}
use Rattle.es_tree.specs.declared.kind.Kind.TheVariants.{VariableDeclarator as k-VariableDeclarator}
use Rattle.es_rest_shapes.specs.RestShapes.{is_stray_rest}
use Rattle.es_rest_nodes.specs.RestFields.{is_stray_declarator}
use Rattle.es_rest_nodes.proofs.RestTests.{stray-declarator}
use Rattle.es_rest_nodes.proofs.strays.is_stray_rest.Goals as goal

abbrev holds : Tree → Bool
holds t = is_stray_rest (kind_of t) (label_of t) (fields_of t)

pub returns-in-VariableDeclarator : goal.returns-in-VariableDeclarator
returns-in-VariableDeclarator c =
    let x = c.node.inside in
    let fs = plain_fields x.fields.items in
    let same : holds (plain x.id x.span x.kind fs) ≡ holds c.args.node.now = ap holds c.node.view_is in
    c.is_stray_declarator.ensures ∙ (ap (λ gs. is_stray_declarator (plain_fields gs)) c.as_slice.ensures.value ∙ (stray-declarator (label_of (plain x.id x.span k-VariableDeclarator fs)) fs ∙ (ap (λ (k : NodeKind). holds (plain x.id x.span k fs)) (sym c.in-VariableDeclarator.is) ∙ same)))
