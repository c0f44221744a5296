use Rattle.es_json.proofs.OneTree.{one_tree_always}
use Rattle.es_json.proofs.laws.law_one_tree.Goals as goal

pub returns : goal.returns
returns c = one_tree_always
