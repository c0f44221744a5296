use Rattle.std.proofs.Common.{refl}
use Rattle.std.specs.Prelude.{false}
use Rattle.es_traverse.proofs.NoHooks.{entered-list-none}
use Rattle.lower_namespace_exports.proofs.ExportNamespaceFromTraverseTransformState.enter_statements.Goals as goal

pub returns-clause-entered : goal.returns-clause-entered
returns-clause-entered c names = entered-list-none _ _ false refl _
