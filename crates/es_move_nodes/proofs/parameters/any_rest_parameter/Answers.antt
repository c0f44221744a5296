use Rattle.std.proofs.Common.{◌∙◌, rules, tests}
use Rattle.std.proofs.lemmas.Iterator.{YieldsList-from_slice}
use Rattle.std.proofs.lemmas.Iterator.Search.{any_from_yields_List}
use Rattle.es_pattern_moves.specs.PatternMoves.{is_rest_parameter}
use Rattle.es_rest_nodes.proofs.RestTests.{any-list}
use Rattle.es_move_nodes.proofs.parameters.any_rest_parameter.Goals as goal

pub returns : goal.returns
returns c =
    any_from_yields_List (is_rest_parameter) _ _ _ c.any.ensures.ran (YieldsList-from_slice c.args.parameters.now cc) (λ x b q k. search (rules, tests)) ∙ any-list (is_rest_parameter) c.args.parameters.now
