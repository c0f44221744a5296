use Rattle.std.proofs.Common.{arith, sym}
use Rattle.lower_namespace_exports.proofs.ExportParts.{few-fields, more-fields}
use Rattle.lower_namespace_exports.proofs.exports.is_whole.Goals as goal

pub returns-in_default : goal.returns-in_default
returns-in_default c = sym (few-fields c.args.fields.now (omega (arith, c.in_default.len_below)))

pub returns-in_default-5 : goal.returns-in_default-5
returns-in_default-5 c = sym (more-fields c.args.fields.now (omega (arith, c.in_default.len_at_least)))
