use Rattle.std.proofs.Common.{◌∙◌, sym}
use Rattle.es_tree.specs.Tree.{kind_of, label_of}
use Rattle.es_traverse.specs.Sites.{role_at}
use Rattle.es_traverse.proofs.NodeHooks.{exited-no-sort, exited-sort, goes-out-by-sort}
use Rattle.es_traverse.proofs.walk.exit_sort.Goals as goal

pub returns-in_default-clause-exited : goal.returns-in_default-clause-exited
returns-in_default-clause-exited g c names = exited-no-sort _ _ _

pub returns-clause-exited : goal.returns-clause-exited
returns-clause-exited g c names = exited-sort _ c.in-Some.hook _ _ (c.in_ok-exit_node.ensures.exited names)

pub returns-clause-goes : goal.returns-clause-goes
returns-clause-goes g c = goes-out-by-sort _ _ _ (role_at (kind_of c.args.node.now) c.args.site) c.in-Some.hook (label_of c.args.node.now).id (sym c.hook_at.ensures ∙ c.in-Some.is) c.in_ok-exit_node.ensures.goes
