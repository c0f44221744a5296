use Rattle.std.proofs.Common.{arith}
use Rattle.es_tree.proofs.Renumber.{fields_more, trees_more}
use Rattle.es_tree.proofs.Sizes.{fields_size-more, node-within, tree_size-positive, trees_size-more, trees_size-within}
use Rattle.es_tree.proofs.+renew.Goals as goal

pub clone::clone_trees_in-clone_in-requires : goal.clone::clone_trees_in-clone_in-requires
clone::clone_trees_in-clone_in-requires t c =
    let part = trees_size-within c.args.nodes.now c.loop-node.node-index c.node-item.result c.loop-node-test.true c.node-item.is in
    (omega arith, omega arith)

pub clone::clone_trees_in-returns-in_err-clone_in-clause-within :
    goal.clone::clone_trees_in-returns-in_err-clone_in-clause-within
clone::clone_trees_in-returns-in_err-clone_in-clause-within t c =
    omega (arith, trees_size-within c.args.nodes.now c.loop-node.node-index c.node-item.result c.loop-node-test.true c.node-item.is)

pub clone::clone_trees_in-returns-in_err-push-clause-within :
    goal.clone::clone_trees_in-returns-in_err-push-clause-within
clone::clone_trees_in-returns-in_err-push-clause-within t c =
    omega (arith, trees_size-within c.args.nodes.now c.loop-node.node-index c.node-item.result c.loop-node-test.true c.node-item.is)

pub clone::clone_trees_in-loop-node-preserved : goal.clone::clone_trees_in-loop-node-preserved
clone::clone_trees_in-loop-node-preserved t c =
    let more = trees_size-more c.args.nodes.now c.loop-node.node-index c.node-item.result c.loop-node-test.true c.node-item.is in
    record {
      copies = rw c.in_ok-push.ensures.items (trees_more _ _ c.loop-node.copies.items c.args.nodes.now c.loop-node.node-index c.in_ok-clone_in.field-0 c.node-item.result
          c.loop-node-test.true c.node-item.is c.loop-node.invariant.copies c.loop-node.invariant.counted c.in_ok-clone_in.ensures.copy);
      counted = omega (arith, more, c.in_ok-clone_in.ensures.counted);
      same = cc;
    }

pub node::Node::clone_in-new_id-id-requires : goal.node::Node::clone_in-new_id-id-requires
node::Node::clone_in-new_id-id-requires t c = omega (arith, tree_size-positive c.args.self.now)

pub node::Node::clone_in-clone_field_in-requires :
    goal.node::Node::clone_in-clone_field_in-requires
node::Node::clone_in-clone_field_in-requires t c =
    let part = node-within c.args.self.now c.self.inside c.deref-field-items.result.now c.loop-field.field-index c.field-item.result c.self.view_is c.deref-field-items.ensures.value
    c.loop-field-test.true c.field-item.is in
    (omega arith, omega arith)

pub node::Node::clone_in-returns-in_err-clone_field_in-clause-within :
    goal.node::Node::clone_in-returns-in_err-clone_field_in-clause-within
node::Node::clone_in-returns-in_err-clone_field_in-clause-within t c =
    omega (
      arith,
      node-within c.args.self.now c.self.inside c.deref-field-items.result.now c.loop-field.field-index c.field-item.result c.self.view_is c.deref-field-items.ensures.value
          c.loop-field-test.true c.field-item.is,
    )

pub node::Node::clone_in-returns-in_err-push-clause-within :
    goal.node::Node::clone_in-returns-in_err-push-clause-within
node::Node::clone_in-returns-in_err-push-clause-within t c =
    omega (
      arith,
      node-within c.args.self.now c.self.inside c.deref-field-items.result.now c.loop-field.field-index c.field-item.result c.self.view_is c.deref-field-items.ensures.value
          c.loop-field-test.true c.field-item.is,
    )

pub node::Node::clone_in-loop-field-preserved : goal.node::Node::clone_in-loop-field-preserved
node::Node::clone_in-loop-field-preserved t c =
    let more = fields_size-more c.deref-field-items.result.now c.loop-field.field-index c.field-item.result c.loop-field-test.true c.field-item.is in
    record {
      copies = rw c.in_ok-push.ensures.items (fields_more _ _ c.loop-field.fields.items c.deref-field-items.result.now c.loop-field.field-index c.in_ok-clone_field_in.field-0 c.field-item.result
          c.loop-field-test.true c.field-item.is c.loop-field.invariant.copies c.loop-field.invariant.counted c.in_ok-clone_field_in.ensures.copy);
      counted = omega (arith, more, c.in_ok-clone_field_in.ensures.counted);
      same = cc;
    }
