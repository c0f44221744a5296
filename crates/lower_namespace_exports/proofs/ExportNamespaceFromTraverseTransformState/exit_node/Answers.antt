use Rattle.std.proofs.Common.{refl}
use Rattle.es_traverse.proofs.NoHooks.{exited-elsewhere}
use Rattle.lower_namespace_exports.proofs.ExportNamespaceFromTraverseTransformState.exit_node.Goals as goal

pub returns-clause-exited : goal.returns-clause-exited
returns-clause-exited c names = exited-elsewhere _ _ (λ k l fs. refl) _ _
