use Rattle.std.proofs.Common.{◌∙◌, arith}
use Rattle.lower_using.proofs.PlaceTests.{some-values}
use Rattle.lower_using.proofs.places.some_have_values.Goals as goal

pub returns-in_default : goal.returns-in_default
returns-in_default c = c.have_values.ensures ∙ some-values c.args.declarators.now (omega (arith, c.in_default.len_at_least))
