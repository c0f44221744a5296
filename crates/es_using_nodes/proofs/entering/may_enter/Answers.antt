use Rattle.std.proofs.Common.{◌∙◌, arith, sym}
use Rattle.es_tree.specs.Tree.{trees}
use Rattle.es_using_nodes.proofs.EnterTests.{fails-at, none-left, steps-at}
use Rattle.es_using_nodes.proofs.entering.may_enter.Goals as goal

pub returns-then-not-enters : goal.returns-then-not-enters
returns-then-not-enters c =
    sym (fails-at (trees c.args.parameters.now) (trees c.args.statements.now) c.args.statements.now c.loop-index.index c.index-statements-index.result c.loop-index-test.true c.index-statements-index.is (sym c.if-not-enters.ensures))

pub loop-index-preserved : goal.loop-index-preserved
loop-index-preserved c =
    c.loop-index.invariant ∙
    steps-at (trees c.args.parameters.now) (trees c.args.statements.now) c.args.statements.now c.loop-index.index c.index-statements-index.result c.loop-index-test.true c.index-statements-index.is (sym c.if-not-enters.ensures)

pub returns : goal.returns
returns c = sym (c.loop-index.invariant ∙ none-left (trees c.args.parameters.now) (trees c.args.statements.now) c.args.statements.now c.loop-index.index (omega (arith, c.loop-index-test.false)))
