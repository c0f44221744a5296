use Rattle.std.proofs.Common.{◌≡◌, [], drop, take}
use Rattle.es_tree.specs.Tree.{trees}
use Rattle.es_move_nodes.proofs.MoveTests.{rest_may_move}
use Rattle.es_move_nodes.proofs.parameters.all_may_move.Given as goal

-- the first parameters move, as far as they are patterns with a rest, so that the others decide
abbrev pub invariant-loop-index : goal.invariant-loop-index
invariant-loop-index l = rest_may_move (trees l.statements) (trees []) l.parameters ≡ rest_may_move (trees l.statements) (trees (take l.index l.parameters)) (drop l.index l.parameters)
