use Rattle.std.proofs.Common.{◌∙◌, sym}
use Rattle.lower_using.proofs.Shapes.{declarator-stays}
use Rattle.lower_using.proofs.constants.use_value.Goals as goal

pub returns-then-not-has_value : goal.returns-then-not-has_value
returns-then-not-has_value c = declarator-stays c.args.context.now c.args.declarator (sym c.has_value.ensures ∙ c.if-not-has_value.true)
