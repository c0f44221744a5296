use Rattle.std.proofs.Common.{◌≡◌, false, take}
use Rattle.es_searches.specs.Searches.{is_sought}
use Rattle.es_tree.specs.Tree.{trees}
use Rattle.es_tree.specs.Views.{plain_fields}
use Rattle.es_tree.specs.Walks.{any_in_fields, any_in_trees}
use Rattle.es_searches.proofs.+search.Given as goal

-- in none of the fields so far one stands
abbrev pub invariant-has_node-loop-field : goal.invariant-has_node-loop-field
invariant-has_node-loop-field l = any_in_fields (is_sought l.fn.sought) (plain_fields (take l.field-index l.field-items)) ≡ false

-- nor in the nodes so far
abbrev pub invariant-has_node_in_field-loop-node : goal.invariant-has_node_in_field-loop-node
invariant-has_node_in_field-loop-node l = any_in_trees (is_sought l.fn.sought) (trees (take l.node-index l.node-items)) ≡ false
