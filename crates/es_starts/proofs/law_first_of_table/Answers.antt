use Rattle.es_starts.proofs.FirstTable.{law_first_of_table_proof}
use Rattle.es_starts.proofs.law_first_of_table.Goals as goal

pub returns : goal.returns
returns c = law_first_of_table_proof
