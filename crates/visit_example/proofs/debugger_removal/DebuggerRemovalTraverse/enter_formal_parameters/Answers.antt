use Rattle.es_traverse.proofs.NoHooks.{entered-parameters-none}
use Rattle.visit_example.proofs.debugger_removal.DebuggerRemovalTraverse.enter_formal_parameters.Goals as goal

pub returns-clause-entered : goal.returns-clause-entered
returns-clause-entered g c names = entered-parameters-none _ _ _
