use Rattle.std.proofs.Common.{◌≡◌, ◌∙◌, false, List, String, map, subst, sym}
use Rattle.std.specs.Prelude.{◌&&◌, is_some, string_bytes}
use Rattle.std.specs.declared.alloc.Global.{Global}
use Rattle.es_tree.specs.Walks.{any_node}
use Rattle.es_pattern_moves.specs.PatternMoves.{moves_pattern}
use Rattle.lower_driver.specs.Moves.{Moves}
use Rattle.lower_driver.proofs.Moved.{moves-itself}
use Rattle.lower_driver.proofs.moving.move_patterns.Goals as goal

pub returns-then-not-asks_for_moves-clause-moves : goal.returns-then-not-asks_for_moves-clause-moves
returns-then-not-asks_for_moves-clause-moves c =
    let on = is_some c.args.options.now.es2018.object_rest_spread in
    let p = c.args.read.program in
    let none : (on && any_node moves_pattern p) ≡ false = sym c.asks_for_moves.ensures ∙ c.if-not-asks_for_moves.true in
    subst (λ (names : List (String Global)). Moves on p p (map string_bytes names)) (sym c.new.ensures.items) (moves-itself on p none)
