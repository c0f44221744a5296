use Rattle.std.proofs.Common.{arith, sym}
use Rattle.es_using_nodes.proofs.BodyShapes.{fewer-arrow, more-arrow}
use Rattle.es_using_nodes.proofs.bodies.clashes_in_arrow.Goals as goal

pub returns-in_default : goal.returns-in_default
returns-in_default c = sym (fewer-arrow c.args.fields.now (omega (arith, c.in_default.len_below)))

pub returns-in_default-4 : goal.returns-in_default-4
returns-in_default-4 c = sym (more-arrow c.args.fields.now (omega (arith, c.in_default.len_at_least)))
