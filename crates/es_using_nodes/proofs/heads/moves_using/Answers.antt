use Rattle.std.proofs.Common.{rules}
use Rattle.es_using_nodes.specs.HeadFields.{not_met}
use Rattle.es_using_nodes.proofs.HeadShapes.{head-three}
use Rattle.es_using_nodes.proofs.heads.moves_using.Goals as goal

pub returns-in-ForOfStatement : goal.returns-in-ForOfStatement
returns-in-ForOfStatement c = search (rules, head-three not_met)
