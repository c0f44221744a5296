use Rattle.std.proofs.Common.{◌∙◌, ap}
use Rattle.std.specs.Prelude.{option_map}
use Rattle.lower_helper_imports.specs.HelperImports.{number_of}
use Rattle.lower_helper_imports.proofs.FirstFound.{found-bound, found-none, found-unbound}
use Rattle.lower_helper_imports.proofs.finding.HelperImports.find_unsupported.Goals as goal

pub returns-then-is_none : goal.returns-then-is_none
returns-then-is_none c o made own p tells table = found-none o made own p c.args.self tells c.if-is_none.ensures

pub returns-then-binds_require : goal.returns-then-binds_require
returns-then-binds_require c o made own p tells table = ap (option_map number_of) c.or.ensures ∙ found-bound o made own p c.args.self tells c.if-is_none.ensures (c.if-binds_require.ensures p tells.sort table)

pub returns-else-binds_require : goal.returns-else-binds_require
returns-else-binds_require c o made own p tells table = found-unbound o made own p c.args.self tells c.if-is_none.ensures (c.if-binds_require.ensures p tells.sort table)
