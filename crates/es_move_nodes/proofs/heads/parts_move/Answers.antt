use Rattle.std.proofs.Common.{arith, sym}
use Rattle.es_move_nodes.proofs.MoveShapes.{short-parts, long-parts}
use Rattle.es_move_nodes.proofs.heads.parts_move.Goals as goal

pub returns-in_default : goal.returns-in_default
returns-in_default c = sym (short-parts c.args.by_var c.args.source.now c.args.fields.now (omega (arith, c.in_default.len_below)))

pub returns-in_default-3 : goal.returns-in_default-3
returns-in_default-3 c = sym (long-parts c.args.by_var c.args.source.now c.args.fields.now (omega (arith, c.in_default.len_at_least)))
