use Rattle.std.proofs.Common.{arith, sym}
use Rattle.lower_excluded_keys.proofs.Calls.{fewer-arguments, more-arguments}
use Rattle.lower_excluded_keys.proofs.places.lists_keys.Goals as goal

pub returns-in_default : goal.returns-in_default
returns-in_default c = sym (fewer-arguments c.args.arguments.now (omega (arith, c.in_default.len_below)))

pub returns-in_default-2 : goal.returns-in_default-2
returns-in_default-2 c = sym (more-arguments c.args.arguments.now (omega (arith, c.in_default.len_at_least)))
