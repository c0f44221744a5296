use Rattle.std.proofs.Common.{◌≡◌, ◌∙◌, sym, ap, None}
use Rattle.es_tree.specs.Tree.{kind_of}
use Rattle.es_traverse.specs.Sites.{hook_of_role, role_at}
use Rattle.es_traverse.proofs.NodeHooks.{entered-no-sort, entered-sort, goes-by-sort}
use Rattle.es_traverse.proofs.Kept.{kind-seen}
use Rattle.es_traverse.proofs.walk.enter_sort.Goals as goal

pub returns-in_default-clause-entered : goal.returns-in_default-clause-entered
returns-in_default-clause-entered g c names =
    let none : c.hook_at.result ≡ None = c.in_default.is in
    entered-no-sort _ _ _ c.requires.can c.args.site _ _ (ap (λ k. hook_of_role (role_at k c.args.site)) (kind-seen names c.args.node.now) ∙ sym c.hook_at.ensures ∙ none)

pub returns-clause-entered : goal.returns-clause-entered
returns-clause-entered g c names =
    entered-sort _ _ _ c.requires.can c.args.site c.in-Some.hook _ _ (ap (λ k. hook_of_role (role_at k c.args.site)) (kind-seen names c.args.node.now) ∙ sym c.hook_at.ensures ∙ c.in-Some.is) (c.in_ok-enter_node.ensures.entered names)

pub returns-clause-goes : goal.returns-clause-goes
returns-clause-goes g c = goes-by-sort _ _ _ (role_at (kind_of c.args.node.now) c.args.site) c.in-Some.hook (sym c.hook_at.ensures ∙ c.in-Some.is) c.in_ok-enter_node.ensures.goes
