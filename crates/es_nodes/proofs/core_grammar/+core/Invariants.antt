use Rattle.std.proofs.Common.{◌≡◌, None, map, take}
use Rattle.es_tree.specs.Core.{is_not_core}
use Rattle.es_tree.specs.Tree.{fields, trees}
use Rattle.es_tree.specs.Views.{plain_field}
use Rattle.es_tree.specs.Walks.{first_in_fields, first_in_trees}
use Rattle.es_nodes.proofs.core_grammar.+core.Given as goal

-- all of the fields so far are core
abbrev pub invariant-first_not_core-loop-field : goal.invariant-first_not_core-loop-field
invariant-first_not_core-loop-field l = first_in_fields is_not_core (fields (map plain_field (take l.field-index l.field-items))) ≡ None

-- all of the trees so far are
abbrev pub invariant-first_not_core_in-loop-node : goal.invariant-first_not_core_in-loop-node
invariant-first_not_core_in-loop-node l = first_in_trees is_not_core (trees (take l.node-index l.node-items)) ≡ None
