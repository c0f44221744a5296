use Rattle.std.proofs.Common.{arith, sym}
use Rattle.es_move_nodes.proofs.MoveShapes.{short-function, long-function}
use Rattle.es_move_nodes.proofs.parameters.moves_from_function.Goals as goal

pub returns-in_default : goal.returns-in_default
returns-in_default c = sym (short-function c.args.fields.now (omega (arith, c.in_default.len_below)))

pub returns-in_default-4 : goal.returns-in_default-4
returns-in_default-4 c = sym (long-function c.args.fields.now (omega (arith, c.in_default.len_at_least)))
