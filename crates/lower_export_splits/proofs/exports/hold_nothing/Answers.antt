use Rattle.std.proofs.Common.{arith, sym}
use Rattle.lower_export_splits.specs.Parts.{hold_nothing}
use Rattle.lower_export_splits.proofs.Fields.{nothing-fits, other-count, other_places}
use Rattle.lower_export_splits.proofs.exports.hold_nothing.Goals as goal

pub returns-in_default : goal.returns-in_default
returns-in_default c = sym (other-count hold_nothing other_places nothing-fits c.args.fields.now (λ h. omega (arith, h, c.in_default.len_below)))

pub returns-in_default-2 : goal.returns-in_default-2
returns-in_default-2 c = sym (other-count hold_nothing other_places nothing-fits c.args.fields.now (λ h. omega (arith, h, c.in_default.len_at_least)))
