use Rattle.std.proofs.Common.{◌∙◌, rules, tests}
use Rattle.std.proofs.lemmas.Iterator.{YieldsList-from_slice}
use Rattle.std.proofs.lemmas.Iterator.Search.{any_from_yields_List}
use Rattle.es_pattern_moves.specs.PatternMoves.{top_declares}
use Rattle.es_rest_nodes.proofs.RestTests.{any-list}
use Rattle.es_move_nodes.proofs.declared.any_top_declares.Goals as goal

pub returns : goal.returns
returns c =
    any_from_yields_List (top_declares c.args.name.now) _ _ _ c.any.ensures.ran (YieldsList-from_slice c.args.statements.now cc) (λ x b q k. search (rules, tests)) ∙ any-list (top_declares c.args.name.now) c.args.statements.now
