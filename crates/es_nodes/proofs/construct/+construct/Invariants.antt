use Rattle.std.proofs.Common.{◌≡◌, false, map, take}
use Rattle.es_tree.specs.Constructs.{is_enabled_construct}
use Rattle.es_tree.specs.Tree.{fields, trees}
use Rattle.es_tree.specs.Views.{plain_field}
use Rattle.es_tree.specs.Walks.{any_in_fields, any_in_trees}
use Rattle.es_nodes.proofs.construct.+construct.Given as goal

-- none of the fields so far has a node that passes
abbrev pub invariant-any_node-loop-field : goal.invariant-any_node-loop-field
invariant-any_node-loop-field l = any_in_fields (is_enabled_construct l.options) (fields (map plain_field (take l.field-index l.field-items))) ≡ false

-- none of the trees so far has one
abbrev pub invariant-any_in_field-loop-node : goal.invariant-any_in_field-loop-node
invariant-any_in_field-loop-node l = any_in_trees (is_enabled_construct l.options) (trees (take l.node-index l.node-items)) ≡ false
