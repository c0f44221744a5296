use Rattle.es_traverse.proofs.NoHooks.{exited-parameters-none}
use Rattle.lower_namespace_exports.proofs.ExportNamespaceFromTraverseTransformState.exit_formal_parameters.Goals as goal

pub returns-clause-exited : goal.returns-clause-exited
returns-clause-exited c names = exited-parameters-none _ _ _
