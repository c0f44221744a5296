use Rattle.std.proofs.Common.{◌≡◌, ◌+◌, ◌*◌, map, take}
use Rattle.es_tree.specs.Tree.{field_size, tree_size, trees, trees_size}
use Rattle.es_tree.specs.Views.{plain_field}
use Rattle.es_tree.proofs.+clone.Given as goal

-- each call goes to a smaller part, or to one of the same size at a lower rank
abbrev pub decreases-node::Node::clone_tree : goal.decreases-node::Node::clone_tree
decreases-node::Node::clone_tree l = 3 * tree_size l.self.now

abbrev pub decreases-clone::clone_trees : goal.decreases-clone::clone_trees
decreases-clone::clone_trees l = 3 * trees_size (trees l.nodes.now) + 1

abbrev pub decreases-node::Field::clone_field : goal.decreases-node::Field::clone_field
decreases-node::Field::clone_field l = 3 * field_size (plain_field l.self.now) + 2

abbrev pub invariant-clone::clone_trees-loop-node : goal.invariant-clone::clone_trees-loop-node
invariant-clone::clone_trees-loop-node l = l.copies.items ≡ take l.node-index l.nodes

abbrev pub invariant-node::Node::clone_tree-loop-field :
    goal.invariant-node::Node::clone_tree-loop-field
invariant-node::Node::clone_tree-loop-field l = map plain_field l.fields.items ≡ map plain_field (take l.field-index l.field-items)
