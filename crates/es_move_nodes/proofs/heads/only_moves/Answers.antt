use Rattle.std.proofs.Common.{arith, sym}
use Rattle.es_move_nodes.proofs.MoveShapes.{more-moves}
use Rattle.es_move_nodes.proofs.heads.only_moves.Goals as goal

pub returns-in_default-2 : goal.returns-in_default-2
returns-in_default-2 c = sym (more-moves c.args.by_var c.args.source.now c.args.declarators.now (omega (arith, c.in_default.len_at_least)))
