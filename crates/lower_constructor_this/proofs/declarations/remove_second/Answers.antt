use Rattle.std.proofs.Common.{arith}
use Rattle.lower_constructor_this.proofs.Taken.{fewer-parts}
use Rattle.lower_constructor_this.proofs.declarations.remove_second.Goals as goal

pub returns-else-len-gt1 : goal.returns-else-len-gt1
returns-else-len-gt1 c = fewer-parts c.args.fields.now.items (omega (arith, c.len.ensures, c.args.fields.now.ok.0, c.if-len-gt1.false))
