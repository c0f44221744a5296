use Rattle.std.proofs.Common.{◌∙◌, ◌+◌, arith, subst}
use Rattle.es_tree.specs.Tree.{kind_of, tree_size}
use Rattle.es_runs.specs.Weights.{weight}
use Rattle.es_changes.specs.Changes.{Kept}
use Rattle.es_visit.proofs.Calls.{exits_once}
use Rattle.es_traverse.specs.ContextMoments.{moment}
use Rattle.es_traverse.specs.Laws.{KeepsBody}
use Rattle.es_traverse.proofs.NodeHooks.{exited-node}
use Rattle.es_traverse.specs.Loads.{writing}
use Rattle.es_traverse.proofs.Kept.{body-unseen, hooks-seen, kept-plus, kept-then, opens-alike, same-place}
use Rattle.es_traverse.proofs.walk.exit_node.Goals as goal

pub returns-clause-kept : goal.returns-clause-kept
returns-clause-kept g c =
    let t = c.args.node.now in
    let v = c.exit_sort.new.node in
    let w = c.exit_body.new.node in
    let d = moment g.S.Additions.pending c.exit_sort.new.ctx in
    let body : KeepsBody t v = body-unseen t v (λ names. (c.in_ok-exit_sort.ensures.exited names).body ∙ (c.in_ok-exit_kind.ensures.exited names).body) in
    kept-then (kept-plus (writing c.args.site) c.in_ok-exit_kind.ensures.kept) (kept-then (kept-plus (writing c.args.site) c.in_ok-exit_sort.ensures.kept)
    (subst (λ x. Kept d (weight v + writing c.args.site) (tree_size v) x (weight w) (tree_size w)) (opens-alike c.args.site g.T.Lowering.keeps t v (moment g.S.Additions.pending c.exit_body.new.ctx) body) c.in_ok-exit_body.ensures.kept))

pub returns-clause-exited : goal.returns-clause-exited
returns-clause-exited g c names =
    exited-node g.T.Lowering.profile g.T.Lowering.keeps c.args.site _ _ _ _ (g.met.T.Traverse.lawful c.args.t.now c.args.ctx.now.options)
    (same-place c.in_ok-exit_kind.ensures.kept) (same-place (kept-then c.in_ok-exit_kind.ensures.kept c.in_ok-exit_sort.ensures.kept))
    c.in_ok-exit_kind.ensures.kept.options (c.in_ok-exit_sort.ensures.kept.options ∙ c.in_ok-exit_kind.ensures.kept.options)
    (c.in_ok-exit_kind.ensures.exited names) (c.in_ok-exit_sort.ensures.exited names) (c.in_ok-exit_body.ensures.exited names) (c.in_ok-exit_body.ensures.none names)
    (omega (arith, c.in_ok-exit_body.ensures.hooks, hooks-seen names c.exit_sort.new.node, hooks-seen names c.exit_body.new.node))

pub returns-clause-goes : goal.returns-clause-goes
returns-clause-goes g c =
    exits_once (kind_of c.args.node.now) c.in_ok-exit_kind.ensures.kept.options c.in_ok-exit_sort.ensures.kept.options c.in_ok-exit_kind.ensures.ids.root c.in_ok-exit_sort.ensures.ids.root
    c.in_ok-exit_kind.ensures.goes c.in_ok-exit_sort.ensures.goes c.in_ok-exit_body.ensures.goes
