use Rattle.std.proofs.Common.{arith, sym}
use Rattle.es_using_nodes.proofs.BodyShapes.{more-static}
use Rattle.es_using_nodes.proofs.bodies.clashes_in_static_block.Goals as goal

pub returns-in_default-3 : goal.returns-in_default-3
returns-in_default-3 c = sym (more-static c.args.fields.now (omega (arith, c.in_default.len_at_least)))
