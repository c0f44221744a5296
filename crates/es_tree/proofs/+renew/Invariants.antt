use Rattle.std.proofs.Common.{◌≡◌, ◌+◌, ◌*◌, suc, map, take}
use Rattle.es_tree.specs.Order.{renumber_fields, renumber_trees}
use Rattle.es_tree.specs.Tree.{field_size, fields, fields_size, tree_size, trees, trees_size}
use Rattle.es_tree.specs.Views.{plain_field}
use Rattle.es_tree.proofs.+renew.Given as goal

-- each call goes to a smaller part, or to one of the same size at a lower rank
abbrev pub decreases-node::Node::clone_in : goal.decreases-node::Node::clone_in
decreases-node::Node::clone_in l = 3 * tree_size l.self.now

abbrev pub decreases-clone::clone_trees_in : goal.decreases-clone::clone_trees_in
decreases-clone::clone_trees_in l = 3 * trees_size (trees l.nodes.now) + 1

abbrev pub decreases-node::Field::clone_field_in : goal.decreases-node::Field::clone_field_in
decreases-node::Field::clone_field_in l = 3 * field_size (plain_field l.self.now) + 2

abbrev pub invariant-clone::clone_trees_in-loop-node :
    goal.invariant-clone::clone_trees_in-loop-node
invariant-clone::clone_trees_in-loop-node l = record {
  copies : trees l.copies.items ≡ renumber_trees l.fn.ast.next (trees (take l.node-index l.nodes));
  counted : l.ast.next ≡ l.fn.ast.next + trees_size (trees (take l.node-index l.nodes));
  same : l.ast.alloc ≡ l.fn.ast.alloc;
}

abbrev pub invariant-node::Node::clone_in-loop-field :
    goal.invariant-node::Node::clone_in-loop-field
invariant-node::Node::clone_in-loop-field l = record {
  copies : fields (map plain_field l.fields.items) ≡ renumber_fields (suc l.fn.ast.next) (fields (map plain_field (take l.field-index l.field-items)));
  counted : l.ast.next ≡ suc l.fn.ast.next + fields_size (fields (map plain_field (take l.field-index l.field-items)));
  same : l.ast.alloc ≡ l.fn.ast.alloc;
}
