use Rattle.std.proofs.Common.{◌∙◌}
use Rattle.lower_helper_imports.proofs.FirstFound.{asked-where}
use Rattle.lower_helper_imports.proofs.finding.HelperImports.are_asked.Goals as goal

pub returns : goal.returns
returns c o made own p tells = c.is_some.ensures ∙ asked-where o made p c.args.self.now.asking tells.asking
