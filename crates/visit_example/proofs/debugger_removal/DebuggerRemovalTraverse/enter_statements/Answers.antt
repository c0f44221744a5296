use Rattle.std.proofs.Common.{refl}
use Rattle.es_traverse.proofs.NoHooks.{entered-list-none}
use Rattle.visit_example.proofs.debugger_removal.DebuggerRemovalTraverse.enter_statements.Goals as goal

pub returns-clause-entered : goal.returns-clause-entered
returns-clause-entered g c names = entered-list-none _ _ _ refl _
