use Rattle.std.proofs.Common.{◌≡◌, ◌||◌, map, take}
use Rattle.std.specs.HashSet.{contains_text}
use Rattle.es_tree.specs.Fresh.{is_among}
use Rattle.es_tree.specs.Heads.{head_of, label}
use Rattle.es_tree.specs.Names.{is_name_place, names_in_fields, names_in_trees}
use Rattle.es_tree.specs.Tree.{fields, trees}
use Rattle.es_tree.specs.Views.{plain_field}
use Rattle.es_tree.specs.Words.{Text}
use Rattle.es_scope.proofs.names.+names.Given as goal

-- the set has gained the names of the trees so far
abbrev pub invariant-insert_field-loop-node : goal.invariant-insert_field-loop-node
invariant-insert_field-loop-node l =
    (x : Text) → contains_text l.names x ≡ (contains_text l.initial.names x || is_among (names_in_trees (trees (take l.node-index l.node-items))) x)

-- the set has gained the names in the fields so far
abbrev pub invariant-insert_node-loop-index : goal.invariant-insert_node-loop-index
invariant-insert_node-loop-index l =
    let head = head_of l.node-inside.kind in
    let counts = is_name_place head.kind (label l.node-inside.id l.node-inside.span head) in
    (x : Text) → contains_text l.names x ≡ (contains_text l.initial.names x || is_among (names_in_fields counts (fields (map plain_field (take l.index l.field-items)))) x)
