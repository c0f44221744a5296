use Rattle.std.proofs.Common.{◌∙◌, rules, tests}
use Rattle.std.proofs.lemmas.Iterator.{YieldsList-from_slice}
use Rattle.std.proofs.lemmas.Iterator.Search.{any_from_yields_List}
use Rattle.es_pattern_moves.specs.PatternMoves.{declarator_declares}
use Rattle.es_rest_nodes.proofs.RestTests.{any-list}
use Rattle.es_move_nodes.proofs.declared.any_declarator_declares.Goals as goal

pub returns : goal.returns
returns c =
    any_from_yields_List (declarator_declares c.args.name.now) _ _ _ c.any.ensures.ran (YieldsList-from_slice c.args.declarators.now cc) (λ x b q k. search (rules, tests)) ∙ any-list (declarator_declares c.args.name.now) c.args.declarators.now
