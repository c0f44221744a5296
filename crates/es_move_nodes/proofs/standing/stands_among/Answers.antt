use Rattle.std.proofs.Common.{refl, sym, true}
use Rattle.es_tree.specs.Tree.{trees}
use Rattle.es_nodes.proofs.Anys.{any_passes, none_more}
use Rattle.es_pattern_moves.specs.PatternMoves.{stands_among, stands_if}
use Rattle.es_move_nodes.specs.AskedNames.{is_asked}
use Rattle.es_move_nodes.proofs.standing.stands_among.Goals as goal

pub returns-then-stands_if : goal.returns-then-stands_if
returns-then-stands_if c =
    let test = is_asked c.args.names.now in
    sym (any_passes (λ ts. stands_among test (trees ts)) (stands_if test true) refl (λ t ts. refl)
    c.args.nodes.now c.loop-node.node-index c.node-item.result c.loop-node-test.true c.node-item.is (sym c.if-stands_if.ensures))

pub loop-node-preserved : goal.loop-node-preserved
loop-node-preserved c =
    let test = is_asked c.args.names.now in
    none_more (λ ts. stands_among test (trees ts)) (stands_if test true) refl (λ t ts. refl)
    c.args.nodes.now c.loop-node.node-index c.node-item.result c.loop-node-test.true c.node-item.is c.loop-node.invariant (sym c.if-stands_if.ensures)
