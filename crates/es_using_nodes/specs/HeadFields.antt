-- Tests of heads of loops, as the code has them: each of what stands in a node's fields.
use Rattle.std.specs.Prelude.{Bool, Option, Some, None, false, not, if◌then◌else◌}
use Rattle.es_tree.specs.Tree.{Tree, node, Fields, done, ◌then◌, Field, missing, one, many, Trees, empty, ◌before◌}
use Rattle.es_tree.specs.declared.ast_type.AstType.TheVariants.{VariableDeclaration, VariableDeclarator}
use Rattle.es_move_nodes.specs.MoveFields.{on_three}
use Rattle.es_pattern_moves.specs.PatternMoves.{meets}
use Rattle.es_rest_shapes.specs.RestShapes.{is_name}
use Rattle.es_using_rows.specs.UsingPlaces.{is_using_word}

-- the name that a head declares by `using`, alone and without a value

abbrev pub only_if_name : Tree → Option Tree
only_if_name x = if is_name x then Some x else None

abbrev pub name_without : Tree → Field → Option Tree
name_without x missing = only_if_name x
name_without x f = None

abbrev pub bare_name : Fields → Option Tree
bare_name (one x then f then done) = name_without x f
bare_name _ = None

abbrev pub declared_name : Tree → Option Tree
declared_name (node VariableDeclarator l fs) = bare_name fs
declared_name _ = None

abbrev pub only_name : Trees → Option Tree
only_name (d before empty) = declared_name d
only_name _ = None

abbrev pub listed_name : Fields → Option Tree
listed_name (many ds then done) = only_name ds
listed_name _ = None

abbrev pub head_name : Tree → Option Tree
head_name (node VariableDeclaration l fs) = if is_using_word l.texts then listed_name fs else None
head_name _ = None

-- whether it passes a test beside the right side

abbrev pub passes : (Tree → Tree → Bool) → Tree → Option Tree → Bool
passes test e None = false
passes test e (Some x) = test x e

abbrev pub in_head : (Tree → Tree → Bool) → Tree → Tree → Bool
in_head test h e = passes test e (head_name h)

abbrev pub in_three : (Tree → Tree → Bool) → Fields → Bool
in_three test fs = on_three (λ h e b. in_head test h e) fs

abbrev pub not_met : Tree → Tree → Bool
not_met x e = not (meets x e)
