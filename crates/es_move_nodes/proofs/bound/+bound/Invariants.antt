use Rattle.std.proofs.Common.{◌≡◌, false, take}
use Rattle.es_move_nodes.proofs.MoveTests.{binds_in_fields, binds_in_nodes}
use Rattle.es_move_nodes.proofs.bound.+bound.Given as goal

-- none of the elements so far binds it
abbrev pub invariant-binds_name-loop-element : goal.invariant-binds_name-loop-element
invariant-binds_name-loop-element l = binds_in_fields l.name (take l.element-index l.element-items) ≡ false

-- none of the nodes so far does
abbrev pub invariant-binds_in_field-loop-node : goal.invariant-binds_in_field-loop-node
invariant-binds_in_field-loop-node l = binds_in_nodes l.name (take l.node-index l.node-items) ≡ false
