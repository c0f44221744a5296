use Rattle.std.proofs.Common.{◌≡◌, ◌∙◌, sym, ap, None}
use Rattle.es_tree.specs.Tree.{kind_of}
use Rattle.es_visit.specs.Hooks.{hook_of_kind}
use Rattle.es_traverse.proofs.NodeHooks.{exited-kind, exited-no-kind}
use Rattle.es_traverse.proofs.Kept.{kind-seen}
use Rattle.es_traverse.proofs.walk.exit_kind.Goals as goal

pub returns-in_default-clause-exited : goal.returns-in_default-clause-exited
returns-in_default-clause-exited g c names =
    let none : c.hook_of_kind.result ≡ None = c.in_default.is in
    exited-no-kind _ (g.met.T.Traverse.lawful c.args.t.now c.args.ctx.now.options) _ _ (ap hook_of_kind (kind-seen names c.args.node.now) ∙ ap (λ x. hook_of_kind (kind_of x)) (sym c.node.view_is) ∙ ap hook_of_kind (sym c.ast_type.ensures) ∙ sym c.hook_of_kind.ensures ∙ none)

pub returns-clause-exited : goal.returns-clause-exited
returns-clause-exited g c names =
    exited-kind _ c.in-Some.hook _ _ (ap hook_of_kind (kind-seen names c.args.node.now) ∙ ap (λ x. hook_of_kind (kind_of x)) (sym c.node.view_is) ∙ ap hook_of_kind (sym c.ast_type.ensures) ∙ sym c.hook_of_kind.ensures ∙ c.in-Some.is) (c.in_ok-exit_node.ensures.exited names)
