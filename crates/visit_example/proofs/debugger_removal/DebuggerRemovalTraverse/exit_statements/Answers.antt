use Rattle.std.proofs.Common.{refl}
use Rattle.es_traverse.proofs.NoHooks.{exited-list-none}
use Rattle.visit_example.proofs.debugger_removal.DebuggerRemovalTraverse.exit_statements.Goals as goal

pub returns-clause-exited : goal.returns-clause-exited
returns-clause-exited g c names = exited-list-none _ _ _ refl _
