use Rattle.std.proofs.Common.{arith, sym}
use Rattle.es_rest_nodes.proofs.RestTests.{more-children}
use Rattle.lower_rest_assignments.proofs.constructs.has_simple_target.Goals as goal

pub returns-in_default-3 : goal.returns-in_default-3
returns-in_default-3 c = sym (more-children _ c.args.fields.now (omega (arith, c.in_default.len_at_least)))
