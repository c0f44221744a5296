use Rattle.es_traverse.proofs.NoHooks.{exited-parameters-none}
use Rattle.visit_example.proofs.debugger_removal.DebuggerRemovalTraverse.exit_formal_parameters.Goals as goal

pub returns-clause-exited : goal.returns-clause-exited
returns-clause-exited g c names = exited-parameters-none _ _ _
