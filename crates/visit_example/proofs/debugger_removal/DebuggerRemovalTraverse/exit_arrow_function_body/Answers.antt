use Rattle.std.proofs.Common.{refl}
use Rattle.es_traverse.proofs.NoHooks.{exited-body-none}
use Rattle.visit_example.proofs.debugger_removal.DebuggerRemovalTraverse.exit_arrow_function_body.Goals as goal

pub returns-clause-exited : goal.returns-clause-exited
returns-clause-exited g c names = exited-body-none _ _ _ refl _
