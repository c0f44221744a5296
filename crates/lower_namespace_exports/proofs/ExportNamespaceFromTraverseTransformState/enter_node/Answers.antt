use Rattle.lower_namespace_exports.proofs.Hook.{entered-none}
use Rattle.lower_namespace_exports.proofs.ExportNamespaceFromTraverseTransformState.enter_node.Goals as goal

pub returns-clause-entered : goal.returns-clause-entered
returns-clause-entered c names = entered-none c.args._ctx.now.options c.args._hook c.args._site _ _
