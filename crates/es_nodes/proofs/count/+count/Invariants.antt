use Rattle.std.proofs.Common.{◌≡◌, suc, map, take}
use Rattle.es_tree.specs.Capped.{capped}
use Rattle.es_tree.specs.Tree.{fields, fields_size, trees, trees_size}
use Rattle.es_tree.specs.Views.{plain_field}
use Rattle.es_nodes.proofs.count.+count.Given as goal

-- the node and its fields so far are counted
abbrev pub invariant-count_nodes-loop-field : goal.invariant-count_nodes-loop-field
invariant-count_nodes-loop-field l = l.count ≡ capped (suc (fields_size (fields (map plain_field (take l.field-index l.field-items)))))

-- the trees so far are counted
abbrev pub invariant-count_field-loop-node : goal.invariant-count_field-loop-node
invariant-count_field-loop-node l = l.count ≡ capped (trees_size (trees (take l.node-index l.node-items)))
