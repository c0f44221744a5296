use Rattle.std.proofs.Common.{◌≡◌, false, take}
use Rattle.es_tree.specs.Heads.{head_of, label}
use Rattle.es_tree.specs.Names.{is_name_place}
use Rattle.es_tree.specs.Tree.{trees}
use Rattle.es_pattern_moves.specs.PatternMoves.{stands_among}
use Rattle.es_move_nodes.specs.AskedNames.{is_asked}
use Rattle.es_move_nodes.proofs.StandingNames.{stands_of}
use Rattle.es_move_nodes.proofs.standing.+standing.Given as goal

-- none of the names stands in the fields so far
abbrev pub invariant-stands_if-loop-index : goal.invariant-stands_if-loop-index
invariant-stands_if-loop-index l =
    let head = head_of l.node-inside.kind in
    stands_of (is_asked l.names) (is_name_place head.kind (label l.node-inside.id l.node-inside.span head)) (take l.index l.field-items) ≡ false

-- none of them stands in the nodes so far
abbrev pub invariant-stands_in_field-loop-node : goal.invariant-stands_in_field-loop-node
invariant-stands_in_field-loop-node l = stands_among (is_asked l.names) (trees (take l.node-index l.node-items)) ≡ false
