use Rattle.std.proofs.Common.{sym, arith}
use Rattle.lower_optional_catch.proofs.BareClauses.{long_clause, short_clause}
use Rattle.lower_optional_catch.proofs.clauses.has_body_alone.Goals as goal

pub returns-in_default : goal.returns-in_default
returns-in_default c = sym (short_clause c.args.fields.now (omega (arith, c.in_default.len_below)))

pub returns-in_default-3 : goal.returns-in_default-3
returns-in_default-3 c = sym (long_clause c.args.fields.now (omega (arith, c.in_default.len_at_least)))
