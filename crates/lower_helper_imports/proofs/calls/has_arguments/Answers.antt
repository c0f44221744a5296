use Rattle.lower_helper_imports.proofs.CalledNodes.{few-fields}
use Rattle.lower_helper_imports.proofs.calls.has_arguments.Goals as goal

pub returns-in_default : goal.returns-in_default
returns-in_default c = few-fields c.args.fields.now c.in_default.len_below
