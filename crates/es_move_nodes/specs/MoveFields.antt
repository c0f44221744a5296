-- Tests of patterns that move, as the code has them: each of what stands in a node's fields.
use Rattle.std.specs.Prelude.{◌&&◌, ◌||◌, Bool, false, not, true}
use Rattle.std.specs.List.{list_any}
use Rattle.es_tree.specs.BoundNames.{bound_in_field}
use Rattle.es_tree.specs.Tree.{Tree, node, Fields, done, ◌then◌, Field, missing, one, many, statements, Trees, empty, ◌before◌}
use Rattle.es_tree.specs.Words.{Text}
use Rattle.es_tree.specs.declared.ast_type.AstType.TheVariants.{ObjectTarget, VariableDeclaration, VariableDeclarator}
use Rattle.es_pattern_moves.specs.PatternMoves.{all_move, declarator_declares, is_called, is_rest_parameter, is_var, may_move, meets}
use Rattle.es_rest_rows.specs.RestRows.{binds_name}
use Rattle.es_rest_nodes.specs.RestFields.{on_list, on_two}
use Rattle.es_rest_shapes.specs.RestShapes.{any_tree, bears_rest, is_plain_pattern}

-- NAMES

-- whether the pattern in this field binds the name
abbrev pub binds_in_field : Text → Field → Bool
binds_in_field x f = list_any (is_called x) (bound_in_field f)

-- DECLARATIONS

abbrev pub pattern_binds : Text → Fields → Bool
pattern_binds x (one p then fs) = binds_name x p
pattern_binds x _ = false

abbrev pub first_is_called : Text → Fields → Bool
first_is_called x (one t then fs) = is_called x t
first_is_called x _ = false

abbrev pub declares_in_list : Text → Fields → Bool
declares_in_list x (many ds then fs) = any_tree (declarator_declares x) ds
declares_in_list x _ = false

-- HEADS

-- whether it moves, declared by `var` or not, where e is on the right side
abbrev pub pattern_moves : Tree → Bool → Tree → Bool
pattern_moves p by_var e = is_plain_pattern p && (by_var || not (meets p e))

abbrev pub is_missing : Field → Bool
is_missing missing = true
is_missing _ = false

abbrev pub parts_move : Fields → Bool → Tree → Bool
parts_move (one p then f then done) by_var e = is_missing f && pattern_moves p by_var e
parts_move _ by_var e = false

abbrev pub declarator_moves : Tree → Bool → Tree → Bool
declarator_moves (node VariableDeclarator l fs) by_var e = parts_move fs by_var e
declarator_moves _ by_var e = false

abbrev pub only_moves : Trees → Bool → Tree → Bool
only_moves (d before empty) by_var e = declarator_moves d by_var e
only_moves _ by_var e = false

abbrev pub list_moves : Fields → Bool → Tree → Bool
list_moves fs by_var e = on_list (λ ds. only_moves ds by_var e) fs

abbrev pub head_moves : Tree → Tree → Bool
head_moves (node VariableDeclaration l fs) e = list_moves fs (is_var l) e
head_moves (node ObjectTarget l fs) e = bears_rest (node ObjectTarget l fs)
head_moves _ e = false

-- three children, of which this holds
abbrev pub on_three : (Tree → Tree → Tree → Bool) → Fields → Bool
on_three P (one t then one u then one v then done) = P t u v
on_three P _ = false

abbrev pub three_move : Fields → Bool
three_move fs = on_three (λ h e b. head_moves h e) fs

-- PARAMETERS

abbrev pub holds_plain_pattern : Fields → Bool
holds_plain_pattern fs = on_two (λ p e. is_plain_pattern p) fs

abbrev pub meets_value : Fields → Bool
meets_value fs = on_two meets fs

-- whether a parameter is a pattern with a rest that doesn't move
abbrev pub is_stuck : Trees → Tree → Trees → Trees → Bool
is_stuck a t c ts = is_rest_parameter t && not (may_move a t c ts)

abbrev pub moves_in_statements : Trees → Fields → Bool
moves_in_statements ps (many ds then statements ts then done) = all_move ps ts
moves_in_statements ps _ = false
