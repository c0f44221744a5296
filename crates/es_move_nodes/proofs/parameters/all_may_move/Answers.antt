use Rattle.std.proofs.Common.{◌∙◌, arith, sym, take}
use Rattle.es_tree.specs.Tree.{trees}
use Rattle.es_move_nodes.proofs.MoveTests.{fails-at, none-left, steps-at}
use Rattle.es_move_nodes.proofs.parameters.all_may_move.Goals as goal

pub returns-then-is_stuck : goal.returns-then-is_stuck
returns-then-is_stuck c =
    sym (fails-at (trees c.args.statements.now) c.args.parameters.now c.loop-index.index c.index-parameters-index.result c.loop-index-test.true c.index-parameters-index.is (sym c.if-is_stuck.ensures))

pub loop-index-preserved : goal.loop-index-preserved
loop-index-preserved c =
    c.loop-index.invariant ∙
    steps-at (trees c.args.statements.now) c.args.parameters.now c.loop-index.index c.index-parameters-index.result c.loop-index-test.true c.index-parameters-index.is (sym c.if-is_stuck.ensures)

pub returns : goal.returns
returns c =
    sym (c.loop-index.invariant ∙ none-left (trees c.args.statements.now) (trees (take c.loop-index.index c.args.parameters.now)) c.args.parameters.now c.loop-index.index (omega (arith, c.loop-index-test.false)))
