use Rattle.std.proofs.Common.{arith, sym}
use Rattle.es_tree.proofs.Sizes.{trees_size-within}
use Rattle.es_rest_nodes.proofs.RestTests.{no-second}
use Rattle.es_rest_nodes.proofs.patterns.+bearing.Goals as goal

pub bears_among-bears_rest-requires : goal.bears_among-bears_rest-requires
bears_among-bears_rest-requires t c =
    let small = trees_size-within c.args.nodes.now c.loop-node.node-index c.node-item.result c.loop-node-test.true c.node-item.is in
    grind (arith, small)

pub bears_second-returns-in_default : goal.bears_second-returns-in_default
bears_second-returns-in_default t c = sym (no-second c.args.fields.now (omega (arith, c.in_default.len_below)))
