-- The names that are asked for, as a test.
use Rattle.std.specs.Prelude.{Bool, bytes_eq}
use Rattle.es_tree.specs.Tree.{trees}
use Rattle.es_tree.specs.Words.{Text}
use Rattle.es_move_nodes.specs.declared.standing.Names.{Names}
use Rattle.es_move_nodes.specs.declared.standing.Names.TheVariants.{BoundBy, DeclaredLater, Word}
use Rattle.es_pattern_moves.specs.PatternMoves.{declared_later}
use Rattle.es_rest_rows.specs.RestRows.{binds_name}

abbrev pub is_asked : Names → Text → Bool
is_asked (BoundBy p) = λ x. binds_name x p.now
is_asked (DeclaredLater ps ts) = declared_later (trees ps.now) (trees ts.now)
is_asked (Word t) = λ x. bytes_eq x t.now
