use Rattle.std.proofs.Common.{arith, sym}
use Rattle.lower_object_spread.proofs.Literals.{more-arguments}
use Rattle.lower_object_spread.proofs.constructs.has_argument.Goals as goal

pub returns-in_default-3 : goal.returns-in_default-3
returns-in_default-3 c = sym (more-arguments c.args.fields.now (omega (arith, c.in_default.len_at_least)))
