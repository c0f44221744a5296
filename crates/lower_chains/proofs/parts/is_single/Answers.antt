use Rattle.std.proofs.Common.{sym, arith}
use Rattle.lower_chains.proofs.Fields.{more_than_single}
use Rattle.lower_chains.proofs.parts.is_single.Goals as goal

pub returns-in_default-3 : goal.returns-in_default-3
returns-in_default-3 c = sym (more_than_single c.args.fields.now (omega (arith, c.in_default.len_at_least)))
