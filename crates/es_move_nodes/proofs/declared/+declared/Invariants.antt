use Rattle.std.proofs.Common.{◌≡◌, false, take}
use Rattle.es_tree.specs.Tree.{trees}
use Rattle.es_tree.specs.Views.{plain_fields}
use Rattle.es_pattern_moves.specs.PatternMoves.{var_among, var_in_fields}
use Rattle.es_move_nodes.proofs.declared.+declared.Given as goal

-- none of the fields so far has such a declaration
abbrev pub invariant-var_declares-loop-field : goal.invariant-var_declares-loop-field
invariant-var_declares-loop-field l = var_in_fields l.name (plain_fields (take l.field-index l.field-items)) ≡ false

-- none of the nodes so far has one
abbrev pub invariant-var_in_field-loop-node : goal.invariant-var_in_field-loop-node
invariant-var_in_field-loop-node l = var_among l.name (trees (take l.node-index l.node-items)) ≡ false
