use Rattle.std.proofs.Common.{◌∙◌, rules, tests}
use Rattle.std.proofs.lemmas.Iterator.{YieldsList-from_slice}
use Rattle.std.proofs.lemmas.Iterator.Search.{all_from_yields_List}
use Rattle.es_pattern_moves.specs.PatternMoves.{is_later}
use Rattle.es_move_nodes.proofs.MoveTests.{all-later}
use Rattle.es_move_nodes.proofs.parameters.are_later.Goals as goal

pub returns : goal.returns
returns c =
    all_from_yields_List is_later _ _ _ c.all.ensures.ran (YieldsList-from_slice c.args.parameters.now cc) (λ x b q k. search (rules, tests)) ∙ all-later c.args.parameters.now
