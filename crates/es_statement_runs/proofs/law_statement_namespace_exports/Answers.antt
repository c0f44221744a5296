use Rattle.es_statement_runs.proofs.NamespaceExports.{law_namespace_exports_proof}
use Rattle.es_statement_runs.proofs.law_statement_namespace_exports.Goals as goal

pub returns : goal.returns
returns c = law_namespace_exports_proof
