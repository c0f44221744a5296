use Rattle.std.proofs.Common.{◌≡◌, ℕ, ◌+◌, ◌*◌, List, drop}
use Rattle.es_tree.specs.Tree.{trees, tree_size, field_size, fields_size, trees_size}
use Rattle.es_tree.specs.Views.{plain_field, plain_fields}
use Rattle.es_scope.specs.Tables.{scope_count}
use Rattle.es_semantic.specs.Places.{Place, scope_count_in_fields, scope_count_in_trees, visits_in_fields, visits_in_trees}
use Rattle.es_semantic.specs.Referring.{AreAt, IsAt}
use Rattle.es_semantic.specs.ScopesOf.{ScopeRow}
use Rattle.es_semantic.specs.SymbolsOf.{Declared}
use Rattle.es_semantic.proofs.ReferringSteps.{FieldsLeft, TreesLeft}
use Rattle.es_semantic.proofs.Visits.{rest_count, rest_tree_count}
use Rattle.es_semantic.proofs.referring.+refer.Given as goal

-- each call goes to a smaller part, or to one of the same size at a lower rank
abbrev rank : ℕ → ℕ → ℕ
rank size n = 5 * size + n

abbrev pub decreases-mark_fields : goal.decreases-mark_fields
decreases-mark_fields l = rank (fields_size (plain_fields l.fields.now)) 4

abbrev pub decreases-mark_field : goal.decreases-mark_field
decreases-mark_field l = rank (field_size (plain_field l.field.now)) 3

abbrev pub decreases-mark_nodes : goal.decreases-mark_nodes
decreases-mark_nodes l = rank (trees_size (trees l.nodes.now)) 2

abbrev pub decreases-mark_node : goal.decreases-mark_node
decreases-mark_node l = rank (tree_size l.node.now) 1

abbrev pub invariant-mark_fields-loop-index : goal.invariant-mark_fields-loop-index
invariant-mark_fields-loop-index l = record {
  later : drop l.index l.fields ≡ drop l.index l.initial.fields;
  kept : scope_count l.scoping ≡ scope_count l.initial.scoping;
  counted : l.next + rest_count l.index l.fields ≡ l.initial.next + scope_count_in_fields (plain_fields l.initial.fields);
  left : (ps : ℕ → Place) (rows : List ScopeRow) (ds : List Declared) → AreAt l.places ps rows ds l.initial.scoping l.initial.next (visits_in_fields ps l.initial.next (plain_fields l.initial.fields)) → FieldsLeft ps rows ds l.initial.scoping l.initial.next (plain_fields l.initial.fields) l.index l.fields l.scoping l.next;
}

abbrev pub invariant-mark_nodes-loop-node : goal.invariant-mark_nodes-loop-node
invariant-mark_nodes-loop-node l = record {
  later : drop l.node-index l.node-items ≡ drop l.node-index l.initial.node-items;
  kept : scope_count l.scoping ≡ scope_count l.initial.scoping;
  counted : l.next + rest_tree_count l.node-index l.node-items ≡ l.initial.next + scope_count_in_trees (trees l.initial.node-items);
  left : (p : Place) (rows : List ScopeRow) (ds : List Declared) → IsAt l.place p rows ds l.initial.scoping l.initial.next (visits_in_trees p l.initial.next (trees l.initial.node-items)) → TreesLeft p rows ds l.initial.scoping l.initial.next (trees l.initial.node-items) l.node-index l.node-items l.scoping l.next;
}
