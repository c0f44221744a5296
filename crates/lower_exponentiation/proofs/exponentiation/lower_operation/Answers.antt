use Rattle.lower_exponentiation.proofs.Rows.{lowered_operation}
use Rattle.lower_exponentiation.proofs.exponentiation.lower_operation.Goals as goal

pub returns : goal.returns
returns c = lowered_operation c.args.ctx.now c.new_power.new.ctx c.args.node c.in_ok-made.made c.open-operator.result c.open-operator.ensures c.requires.lowerable c.requires.on c.in_ok-made.ensures.made c.in_ok-made.ensures.reads
