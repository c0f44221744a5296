use Rattle.std.proofs.Common.{arith, sym}
use Rattle.lower_export_splits.proofs.Fields.{other-count}
use Rattle.lower_using_modules.specs.Parts.{is_list}
use Rattle.lower_using_modules.proofs.Fields.{list-fits, list_places}
use Rattle.lower_using_modules.proofs.declarations.is_list.Goals as goal

pub returns-in_default-3 : goal.returns-in_default-3
returns-in_default-3 c = sym (other-count is_list list_places list-fits c.args.fields.now (λ h. omega (arith, h, c.in_default.len_at_least)))
