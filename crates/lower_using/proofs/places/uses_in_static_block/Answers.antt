use Rattle.std.proofs.Common.{arith, sym}
use Rattle.lower_using.proofs.PlaceTests.{more-statics}
use Rattle.lower_using.proofs.places.uses_in_static_block.Goals as goal

pub returns-in_default-3 : goal.returns-in_default-3
returns-in_default-3 c = sym (more-statics c.args.fields.now (omega (arith, c.in_default.len_at_least)))
