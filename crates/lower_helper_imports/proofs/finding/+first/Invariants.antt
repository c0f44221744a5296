use Rattle.std.proofs.Common.{◌≡◌, None, take}
use Rattle.es_tree.specs.Tree.{trees}
use Rattle.es_tree.specs.Views.{plain_fields}
use Rattle.es_tree.specs.Walks.{first_in_fields, first_in_trees}
use Rattle.lower_helper_imports.specs.HelperImports.{sought_test}
use Rattle.lower_helper_imports.proofs.finding.+first.Given as goal

-- none of the fields so far has one
abbrev pub invariant-first_node-loop-field : goal.invariant-first_node-loop-field
invariant-first_node-loop-field l = first_in_fields (sought_test l.sought) (plain_fields (take l.field-index l.field-items)) ≡ None

-- none of the nodes so far has
abbrev pub invariant-first_in_field-loop-node : goal.invariant-first_in_field-loop-node
invariant-first_in_field-loop-node l = first_in_trees (sought_test l.sought) (trees (take l.node-index l.node-items)) ≡ None
