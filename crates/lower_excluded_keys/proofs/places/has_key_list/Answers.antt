use Rattle.std.proofs.Common.{arith, sym}
use Rattle.lower_excluded_keys.proofs.Calls.{fewer-fields, more-fields}
use Rattle.lower_excluded_keys.proofs.places.has_key_list.Goals as goal

pub returns-in_default : goal.returns-in_default
returns-in_default c = sym (fewer-fields c.args.fields.now (omega (arith, c.in_default.len_below)))

pub returns-in_default-4 : goal.returns-in_default-4
returns-in_default-4 c = sym (more-fields c.args.fields.now (omega (arith, c.in_default.len_at_least)))
