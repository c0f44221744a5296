use Rattle.std.proofs.Common.{◌≡◌, ◌++◌, map, take}
use Rattle.es_tree.specs.Heads.{head_of}
use Rattle.es_tree.specs.Tree.{fields, trees}
use Rattle.es_tree.specs.Views.{plain_field}
use Rattle.es_scope.specs.OuterScopes.{is_outside, outer_in_fields, outer_in_trees}
use Rattle.es_scope.proofs.outer_scopes.+outer.Given as goal

-- the scopes in the fields so far are found
abbrev pub invariant-push_outer-loop-index : goal.invariant-push_outer-loop-index
invariant-push_outer-loop-index l =
    let head = head_of l.node-inside.kind in
    map (λ c. c.0) l.found.items ≡ map (λ c. c.0) l.initial.found.items ++ outer_in_fields l.scoping l.up.0 (is_outside head.kind head.marks) (fields (map plain_field (take l.index l.field-items)))

-- the scopes in the nodes so far are found
abbrev pub invariant-push_outer_in_field-loop-node : goal.invariant-push_outer_in_field-loop-node
invariant-push_outer_in_field-loop-node l =
    map (λ c. c.0) l.found.items ≡ map (λ c. c.0) l.initial.found.items ++ outer_in_trees l.scoping l.up.0 (trees (take l.node-index l.node-items))
