use Rattle.std.proofs.Common.{◌∙◌, rules, tests}
use Rattle.std.proofs.lemmas.Iterator.{YieldsList-from_slice}
use Rattle.std.proofs.lemmas.Iterator.Search.{any_from_yields_List}
use Rattle.es_pattern_moves.specs.PatternMoves.{var_declares}
use Rattle.es_move_nodes.proofs.MoveTests.{any-vars}
use Rattle.es_move_nodes.proofs.declared.any_var_declares.Goals as goal

pub returns : goal.returns
returns c =
    any_from_yields_List (var_declares c.args.name.now) _ _ _ c.any.ensures.ran (YieldsList-from_slice c.args.nodes.now cc) (λ x b q k. search (rules, tests)) ∙ any-vars c.args.name.now c.args.nodes.now
