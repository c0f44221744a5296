use Rattle.std.proofs.Common.{◌≡◌, false, take}
use Rattle.es_tree.specs.Tree.{trees}
use Rattle.es_tree.specs.Views.{plain_fields}
use Rattle.es_tree.specs.Walks.{any_in_fields, any_in_trees}
use Rattle.es_pattern_moves.specs.PatternMoves.{moves_pattern}
use Rattle.es_move_nodes.proofs.moves.+moves.Given as goal

-- out of none of the fields so far a pattern moves
abbrev pub invariant-has_moves-loop-field : goal.invariant-has_moves-loop-field
invariant-has_moves-loop-field l = any_in_fields moves_pattern (plain_fields (take l.field-index l.field-items)) ≡ false

-- nor out of the nodes so far
abbrev pub invariant-has_moves_in_field-loop-node : goal.invariant-has_moves_in_field-loop-node
invariant-has_moves_in_field-loop-node l = any_in_trees moves_pattern (trees (take l.node-index l.node-items)) ≡ false
