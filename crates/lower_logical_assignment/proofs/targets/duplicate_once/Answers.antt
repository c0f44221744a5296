use Rattle.es_resolution.specs.Seen.{seen}
use Rattle.lower_logical_assignment.proofs.Duplicated.{duplicated-once}
use Rattle.lower_logical_assignment.proofs.targets.duplicate_once.Goals as goal

pub returns : goal.returns
returns c names = duplicated-once c.args.ctx.now c.duplicate_expression.new.ctx (seen names c.args.expression) (seen names c.in_ok-first.first) (seen names c.in_ok-first.again) (c.in_ok-first.ensures.duplicated names)
