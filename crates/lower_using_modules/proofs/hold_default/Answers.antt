use Rattle.std.proofs.Common.{arith, sym}
use Rattle.lower_export_splits.proofs.Fields.{other-count}
use Rattle.lower_using_modules.specs.Parts.{hold_default}
use Rattle.lower_using_modules.proofs.Fields.{default-fits, program_places}
use Rattle.lower_using_modules.proofs.hold_default.Goals as goal

pub returns-in_default : goal.returns-in_default
returns-in_default c = sym (other-count hold_default program_places default-fits c.args.fields.now (λ h. omega (arith, h, c.in_default.len_below)))

pub returns-in_default-4 : goal.returns-in_default-4
returns-in_default-4 c = sym (other-count hold_default program_places default-fits c.args.fields.now (λ h. omega (arith, h, c.in_default.len_at_least)))
