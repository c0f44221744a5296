use Rattle.lower_arrows.proofs.MadeFunctions.{short-fields, short-ids}
use Rattle.lower_arrows.proofs.functions.give_body.Goals as goal
use Rattle.std.proofs.Common.{arith}

pub returns-then-len-lt2-clause-made : goal.returns-then-len-lt2-clause-made
returns-then-len-lt2-clause-made c names = short-fields names c.args.fields.now.items (omega arith)

pub returns-then-len-lt2-clause-counted : goal.returns-then-len-lt2-clause-counted
returns-then-len-lt2-clause-counted c = omega (arith, short-ids c.args.fields.now.items (omega arith))
