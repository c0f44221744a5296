use Rattle.std.proofs.Common.{◌≡◌, ◌≤◌, [], append-nil, arith, length, sym}
use borrow.Author.Tests.{false-ltb}
use Rattle.es_tree.specs.BoundNames.{bound_identifiers}
use Rattle.es_tree.proofs.BoundNames.{fields_more, trees_more, no_second}
use Rattle.es_tree.proofs.node.+bound.Goals as goal

pub Field::push_bound_names-loop-node-preserved : goal.Field::push_bound_names-loop-node-preserved
Field::push_bound_names-loop-node-preserved t c =
    trees_more _ _ _ c.deref-node-items.result.now c.loop-node.node-index c.node-item.result c.loop-node-test.true c.node-item.is c.loop-node.invariant c.in_ok-push_bound_names-in-Many.ensures

pub Node::push_bound_names-loop-element-preserved : goal.Node::push_bound_names-loop-element-preserved
Node::push_bound_names-loop-element-preserved t c =
    fields_more _ _ _ c.deref-element-items.result.now c.loop-element.element-index c.element-item.result c.loop-element-test.true c.element-item.is c.loop-element.invariant c.in_ok-push_bound_names-in-ArrayPattern.ensures

pub Node::push_bound_names-returns-in_default-get :
    goal.Node::push_bound_names-returns-in_default-get
Node::push_bound_names-returns-in_default-get t c =
    let few : length c.deref.result.now ≤ 1 = omega (arith, false-ltb _ (length c.deref.result.now) c.in_default-get.ensures.lookup.0) in
    let none : bound_identifiers c.args.self.now ≡ [] =
    rw (← c.self.view_is, c.in-PatternProperty.is) (no_second c.self.inside.fields.items (rw c.deref.ensures.value at few)) in
    rw none (sym (append-nil _))
