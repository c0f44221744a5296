use Rattle.es_top_names.proofs.SameSort.{law_same_sort_proof}
use Rattle.es_top_names.proofs.law_same_sort.Goals as goal

pub returns : goal.returns
returns c = law_same_sort_proof
