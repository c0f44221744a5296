use Rattle.lower_helper_imports.proofs.CalledNodes.{more-arguments}
use Rattle.lower_helper_imports.proofs.calls.lone_helper.Goals as goal

pub returns-in_default-2 : goal.returns-in_default-2
returns-in_default-2 c = more-arguments c.args.arguments.now c.in_default.len_at_least
