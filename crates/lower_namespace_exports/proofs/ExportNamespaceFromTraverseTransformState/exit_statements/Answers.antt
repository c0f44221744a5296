use Rattle.std.proofs.Common.{refl}
use Rattle.std.specs.Prelude.{false}
use Rattle.es_traverse.proofs.NoHooks.{exited-list-none}
use Rattle.lower_namespace_exports.proofs.ExportNamespaceFromTraverseTransformState.exit_statements.Goals as goal

pub returns-clause-exited : goal.returns-clause-exited
returns-clause-exited c names = exited-list-none _ _ false refl _
