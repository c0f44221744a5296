use Rattle.std.proofs.Common.{rules}
use Rattle.es_pattern_moves.specs.PatternMoves.{meets}
use Rattle.es_using_nodes.proofs.HeadShapes.{head-three}
use Rattle.es_using_nodes.proofs.heads.asks_its_name.Goals as goal

pub returns-in-ForOfStatement : goal.returns-in-ForOfStatement
returns-in-ForOfStatement c = search (rules, head-three meets)
