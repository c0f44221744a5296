use Rattle.std.proofs.Common.{arith, sym}
use Rattle.es_rest_nodes.proofs.RestTests.{some-fields}
use Rattle.es_rest_nodes.proofs.keys.has_no_fields.Goals as goal

pub returns-in_default : goal.returns-in_default
returns-in_default c = sym (some-fields c.args.fields.now (omega (arith, c.in_default.len_at_least)))
