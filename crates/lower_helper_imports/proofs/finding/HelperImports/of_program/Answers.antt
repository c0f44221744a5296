use Rattle.std.proofs.Common.{refl}
use Rattle.lower_helper_imports.proofs.finding.HelperImports.of_program.Goals as goal

pub returns : goal.returns
returns c = record { sort = c.is_module.ensures; asking = c.first_asking.ensures; calling = refl }
