use Rattle.visit_example.proofs.Removed.{entered-other, entered-statement}
use Rattle.visit_example.proofs.debugger_removal.DebuggerRemovalTraverse.enter_node.Goals as goal

pub returns-in_default-clause-entered : goal.returns-in_default-clause-entered
returns-in_default-clause-entered g c names = entered-other c.args.hook c.in_default.not-Statement c.args._site _ _

pub returns-in-Statement-clause-entered : goal.returns-in-Statement-clause-entered
returns-in-Statement-clause-entered g c names = entered-statement c.args.hook c.in-Statement.is c.args._site _ c.args.node.now c.remove_debugger.new.statement names c.remove_debugger.ensures
