use Rattle.std.proofs.Common.{arith, sym}
use Rattle.lower_using.proofs.PlaceTests.{fewer-using, more-using}
use Rattle.lower_using.proofs.places.holds_using.Goals as goal

pub returns-in_default : goal.returns-in_default
returns-in_default c = sym (fewer-using c.args.fields.now (omega (arith, c.in_default.len_below)))

pub returns-in_default-3 : goal.returns-in_default-3
returns-in_default-3 c = sym (more-using c.args.fields.now (omega (arith, c.in_default.len_at_least)))
