use Rattle.std.proofs.Common.{◌≡◌, ◌∙◌, sym, ap, None}
use Rattle.es_tree.specs.Tree.{kind_of}
use Rattle.es_visit.specs.Hooks.{hook_of_kind}
use Rattle.es_traverse.proofs.NodeHooks.{entered-kind, entered-no-kind}
use Rattle.es_traverse.proofs.Kept.{kind-seen}
use Rattle.es_traverse.proofs.walk.enter_kind.Goals as goal

pub returns-in_default-clause-entered : goal.returns-in_default-clause-entered
returns-in_default-clause-entered g c names =
    let none : c.hook_of_kind.result ≡ None = c.in_default.is in
    entered-no-kind _ c.args.site _ _ (ap hook_of_kind (kind-seen names c.args.node.now) ∙ ap (λ x. hook_of_kind (kind_of x)) (sym c.node.view_is) ∙ ap hook_of_kind (sym c.ast_type.ensures) ∙ sym c.hook_of_kind.ensures ∙ none)

pub returns-clause-entered : goal.returns-clause-entered
returns-clause-entered g c names =
    entered-kind _ c.in-Some.hook c.args.site _ _ (ap hook_of_kind (kind-seen names c.args.node.now) ∙ ap (λ x. hook_of_kind (kind_of x)) (sym c.node.view_is) ∙ ap hook_of_kind (sym c.ast_type.ensures) ∙ sym c.hook_of_kind.ensures ∙ c.in-Some.is) (c.in_ok-enter_node.ensures.entered names)
