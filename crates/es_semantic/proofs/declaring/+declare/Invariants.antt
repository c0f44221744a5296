use Rattle.std.proofs.Common.{ℕ, ◌+◌, ◌*◌, ◌≤◌, take}
use Rattle.es_tree.specs.Tree.{field_size, fields_of, fields_size, kind_of, label_of, tree_size, trees, trees_size}
use Rattle.es_tree.specs.Views.{plain_field, plain_fields}
use Rattle.es_scope.specs.Tables.{scope_count}
use Rattle.es_semantic.specs.Places.{Place as PlainPlace, place_in, visits_in_fields, visits_in_trees}
use Rattle.es_semantic.specs.Walks.{Adds, AreOwn, StandsAs}
use Rattle.es_semantic.proofs.declaring.+declare.Given as goal

-- each call goes to a smaller part, or to one of the same size at a lower rank
abbrev rank : ℕ → ℕ → ℕ
rank size n = 5 * size + n

abbrev pub decreases-declare_fields : goal.decreases-declare_fields
decreases-declare_fields l = rank (fields_size (fields_of l.node.now)) 4

abbrev pub decreases-declare_field : goal.decreases-declare_field
decreases-declare_field l = rank (field_size (plain_field l.field.now)) 3

abbrev pub decreases-declare_nodes : goal.decreases-declare_nodes
decreases-declare_nodes l = rank (trees_size (trees l.nodes.now)) 2

abbrev pub decreases-declare_node : goal.decreases-declare_node
decreases-declare_node l = rank (tree_size l.node.now) 1

-- what the fields so far have is added
abbrev pub invariant-declare_fields-loop-index : goal.invariant-declare_fields-loop-index
invariant-declare_fields-loop-index l = record {
  kept : scope_count l.initial.scoping ≤ scope_count l.scoping;
  declared : (p : PlainPlace) (n : ℕ) → StandsAs l.place p → AreOwn l.own n (kind_of l.node) (fields_of l.node) → Adds l.initial.scoping l.scoping (λ m. visits_in_fields (place_in p n (kind_of l.node) (label_of l.node) (fields_of l.node)) m (plain_fields (take l.index l.field-items)));
}

-- what the trees so far have is added
abbrev pub invariant-declare_nodes-loop-node : goal.invariant-declare_nodes-loop-node
invariant-declare_nodes-loop-node l = record {
  kept : scope_count l.initial.scoping ≤ scope_count l.scoping;
  declared : (p : PlainPlace) → StandsAs l.place p → Adds l.initial.scoping l.scoping (λ n. visits_in_trees p n (trees (take l.node-index l.nodes)));
}
