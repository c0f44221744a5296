use Rattle.std.proofs.Common.{refl}
use Rattle.es_traverse.proofs.NoHooks.{exited-program-none}
use Rattle.visit_example.proofs.debugger_removal.DebuggerRemovalTraverse.exit_program.Goals as goal

pub returns-clause-exited : goal.returns-clause-exited
returns-clause-exited g c names = exited-program-none _ _ _ refl _
