use Rattle.es_traverse.proofs.NoHooks.{entered-parameters-none}
use Rattle.lower_namespace_exports.proofs.ExportNamespaceFromTraverseTransformState.enter_formal_parameters.Goals as goal

pub returns-clause-entered : goal.returns-clause-entered
returns-clause-entered c names = entered-parameters-none _ _ _
