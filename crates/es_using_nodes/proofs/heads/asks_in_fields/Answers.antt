use Rattle.std.proofs.Common.{arith, sym}
use Rattle.std.proofs.lemmas.Grind.{common_steps}
use Rattle.es_move_nodes.proofs.MoveShapes.{fewer-than-three, more-than-three}
use Rattle.es_using_nodes.proofs.heads.asks_in_fields.Goals as goal

pub returns-in_default : goal.returns-in_default
returns-in_default c = sym (fewer-than-three _ c.args.fields.now (omega (arith, c.in_default.len_below)))

pub returns-in_default-5 : goal.returns-in_default-5
returns-in_default-5 c = sym (more-than-three _ c.args.fields.now (omega (arith, c.in_default.len_at_least)))

pub returns-in-One : goal.returns-in-One
returns-in-One c = grind (arith, common_steps)
