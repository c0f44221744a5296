use Rattle.std.proofs.Common.{subst, sym}
use Rattle.es_tree.specs.Tree.{kind_of}
use Rattle.es_visit.proofs.Calls.{enters_once}
use Rattle.es_traverse.specs.ContextMoments.{moment}
use Rattle.es_traverse.specs.Laws.{CanVisit}
use Rattle.es_traverse.proofs.NodeHooks.{entered-node}
use Rattle.es_traverse.proofs.Kept.{opened-options, same-place}
use Rattle.es_traverse.proofs.walk.enter_node.Goals as goal

pub enter_sort-requires-clause-can : goal.enter_sort-requires-clause-can
enter_sort-requires-clause-can g c =
    subst (λ o. CanVisit g.S.Additions.pending g.T.Lowering.keeps (g.T.Lowering.profile o))
    (sym (opened-options c.args.site g.T.Lowering.keeps c.args.node.now (moment g.S.Additions.pending c.args.ctx.now) (moment g.S.Additions.pending c.enter_body.new.ctx) c.in_ok-enter_body.ensures.opened)) c.requires.can

pub returns-clause-entered : goal.returns-clause-entered
returns-clause-entered g c names =
    entered-node g.T.Lowering.profile g.T.Lowering.keeps c.args.site names (moment g.S.Additions.pending c.args.ctx.now) c.args.node.now _ _ c.in_ok-enter_body.ensures.opened
    (g.met.T.Traverse.lawful c.args.t.now c.enter_body.new.ctx.options) (same-place c.in_ok-enter_sort.ensures.kept) c.in_ok-enter_sort.ensures.kept.options
    (c.in_ok-enter_sort.ensures.entered names) (c.in_ok-enter_kind.ensures.entered names)

pub returns-clause-goes : goal.returns-clause-goes
returns-clause-goes g c =
    enters_once (kind_of c.enter_sort.new.node)
    (opened-options c.args.site g.T.Lowering.keeps c.args.node.now (moment g.S.Additions.pending c.args.ctx.now) (moment g.S.Additions.pending c.enter_body.new.ctx) c.in_ok-enter_body.ensures.opened) c.in_ok-enter_sort.ensures.kept.options
    c.in_ok-enter_body.ensures.goes c.in_ok-enter_sort.ensures.goes c.in_ok-enter_kind.ensures.goes
