use Rattle.std.proofs.Common.{◌∙◌, sym}
use Rattle.lower_arrows.proofs.This.{name-made}
use Rattle.lower_arrows.proofs.target.make_name.Goals as goal

pub returns : goal.returns
returns c = name-made c.args.target.now.name c.in_ok-name.name c.args.ctx.now c.new_bound_name.new.ctx _ _ (sym c.is_some.ensures ∙ c.if-is_some.false) c.in_ok-name.ensures.taken
