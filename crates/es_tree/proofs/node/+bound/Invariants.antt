use Rattle.std.proofs.Common.{◌≡◌, ◌++◌, map, take}
use Rattle.es_tree.specs.BoundNames.{bound_in_fields, bound_in_trees}
use Rattle.es_tree.specs.Tree.{fields, trees}
use Rattle.es_tree.specs.Views.{plain_field}
use Rattle.es_tree.proofs.node.+bound.Given as goal

abbrev pub invariant-Field::push_bound_names-loop-node :
    goal.invariant-Field::push_bound_names-loop-node
invariant-Field::push_bound_names-loop-node l =
    l.names.items ≡ l.initial.names.items ++ bound_in_trees (trees (take l.node-index l.node-items))

abbrev pub invariant-Node::push_bound_names-loop-element :
    goal.invariant-Node::push_bound_names-loop-element
invariant-Node::push_bound_names-loop-element l =
    l.names.items ≡ l.initial.names.items ++ bound_in_fields (fields (map plain_field (take l.element-index l.element-items)))
