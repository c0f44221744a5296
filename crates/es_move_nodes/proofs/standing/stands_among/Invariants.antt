use Rattle.std.proofs.Common.{◌≡◌, false, take}
use Rattle.es_tree.specs.Tree.{trees}
use Rattle.es_pattern_moves.specs.PatternMoves.{stands_among}
use Rattle.es_move_nodes.specs.AskedNames.{is_asked}
use Rattle.es_move_nodes.proofs.standing.stands_among.Given as goal

abbrev pub invariant-loop-node : goal.invariant-loop-node
invariant-loop-node l = stands_among (is_asked l.names) (trees (take l.node-index l.nodes)) ≡ false
