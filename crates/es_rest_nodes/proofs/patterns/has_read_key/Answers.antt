use Rattle.std.proofs.Common.{arith, sym}
use Rattle.es_rest_nodes.proofs.RestTests.{fewer-than-two, more-than-two}
use Rattle.es_rest_nodes.proofs.patterns.has_read_key.Goals as goal

pub returns-in_default : goal.returns-in_default
returns-in_default c = sym (fewer-than-two _ c.args.fields.now (omega (arith, c.in_default.len_below)))

pub returns-in_default-4 : goal.returns-in_default-4
returns-in_default-4 c = sym (more-than-two _ c.args.fields.now (omega (arith, c.in_default.len_at_least)))
