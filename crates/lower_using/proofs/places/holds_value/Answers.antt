use Rattle.std.proofs.Common.{arith, sym}
use Rattle.lower_using.proofs.PlaceTests.{fewer-values, more-values}
use Rattle.lower_using.proofs.places.holds_value.Goals as goal

pub returns-in_default : goal.returns-in_default
returns-in_default c = sym (fewer-values c.args.fields.now (omega (arith, c.in_default.len_below)))

pub returns-in_default-4 : goal.returns-in_default-4
returns-in_default-4 c = sym (more-values c.args.fields.now (omega (arith, c.in_default.len_at_least)))
