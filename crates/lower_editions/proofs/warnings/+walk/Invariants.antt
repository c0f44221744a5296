use Rattle.std.proofs.Common.{◌≡◌, ◌++◌, map, take}
use Rattle.es_tree.specs.Heads.{head_of}
use Rattle.es_tree.specs.Tree.{fields, trees}
use Rattle.es_tree.specs.Views.{plain_field}
use Rattle.lower_editions.specs.WarningWalk.{walked_fields, walked_trees}
use Rattle.lower_editions.proofs.warnings.+walk.Given as goal

-- the fields so far are warned of
abbrev pub invariant-push_warnings-loop-index : goal.invariant-push_warnings-loop-index
invariant-push_warnings-loop-index l =
    l.warnings.items ≡ l.initial.warnings.items ++ walked_fields l.options (head_of l.node-inside.kind).kind 0 (fields (map plain_field (take l.index l.field-items)))

-- the trees so far are
abbrev pub invariant-push_warnings_in-loop-node : goal.invariant-push_warnings_in-loop-node
invariant-push_warnings_in-loop-node l =
    l.warnings.items ≡ l.initial.warnings.items ++ walked_trees l.options l.is_name (trees (take l.node-index l.node-items))
