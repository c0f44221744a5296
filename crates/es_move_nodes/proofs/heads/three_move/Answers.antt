use Rattle.std.proofs.Common.{arith, sym}
use Rattle.es_move_nodes.proofs.MoveShapes.{fewer-than-three, more-than-three}
use Rattle.es_move_nodes.proofs.heads.three_move.Goals as goal

pub returns-in_default : goal.returns-in_default
returns-in_default c = sym (fewer-than-three _ c.args.fields.now (omega (arith, c.in_default.len_below)))

pub returns-in_default-5 : goal.returns-in_default-5
returns-in_default-5 c = sym (more-than-three _ c.args.fields.now (omega (arith, c.in_default.len_at_least)))
