use Rattle.es_resolution.proofs.Sources.{law_table_proof}
use Rattle.es_resolution.proofs.law_table.Goals as goal

pub returns : goal.returns
returns c = law_table_proof
