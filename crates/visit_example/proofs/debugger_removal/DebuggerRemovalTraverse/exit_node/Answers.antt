use Rattle.std.proofs.Common.{refl}
use Rattle.es_traverse.proofs.NoHooks.{exited-elsewhere}
use Rattle.visit_example.proofs.debugger_removal.DebuggerRemovalTraverse.exit_node.Goals as goal

pub returns-clause-exited : goal.returns-clause-exited
returns-clause-exited g c names = exited-elsewhere _ _ (λ k l fs. refl) _ _
