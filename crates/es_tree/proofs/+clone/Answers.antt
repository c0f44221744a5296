use Rattle.std.proofs.Common.{arith}
use Rattle.es_tree.proofs.Sizes.{node-within, trees_size-within}
use Rattle.es_tree.proofs.+clone.Goals as goal

pub clone::clone_trees-clone_tree-requires : goal.clone::clone_trees-clone_tree-requires
clone::clone_trees-clone_tree-requires t c =
    let part = trees_size-within c.args.nodes.now c.loop-node.node-index c.node-item.result c.loop-node-test.true c.node-item.is in
    (omega arith, tt)

pub node::Node::clone_tree-clone_field-requires :
    goal.node::Node::clone_tree-clone_field-requires
node::Node::clone_tree-clone_field-requires t c =
    let part = node-within c.args.self.now c.self.inside c.deref-field-items.result.now c.loop-field.field-index c.field-item.result c.self.view_is c.deref-field-items.ensures.value
    c.loop-field-test.true c.field-item.is in
    (omega arith, tt)
