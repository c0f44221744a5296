use Rattle.std.proofs.Common.{◌∙◌}
use Rattle.std.proofs.lemmas.Result.{IfOk-weaker}
use Rattle.es_tree.specs.Heads.{head_of, label}
use Rattle.es_tree.specs.Tree.{trees}
use Rattle.es_tree.specs.declared.kind.Kind.TheVariants.{Program as k-Program}
use Rattle.lower_using_modules.proofs.Programs.{topped-by}
use Rattle.lower_using_modules.proofs.lower_program.Goals as goal

pub returns : goal.returns
returns c =
    let p = c.open-source_type.result in
    let parts = c.in_ok-outside in
    IfOk-weaker c.close.result _ _
    (λ made h.
    h ∙
    topped-by c.args.default.now c.args.context.now c.args.program (label p.id p.span (head_of (k-Program p.source_type p.scope))) (trees p.directives.items) (trees p.body.items) (trees parts.inside.items) parts.outside.items c.push.new.self.items c.in_ok-tried.tried c.open-source_type.ensures parts.ensures.outside
    parts.ensures.inside c.in_ok-tried.ensures c.in_ok-push.ensures.items) c.close.ensures
