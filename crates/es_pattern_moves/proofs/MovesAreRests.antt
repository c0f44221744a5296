-- Where no pattern with a rest stands none moves: a node out of which one moves holds it.
use Rattle.std.proofs.Common.{◌≡◌, ◌∙◌, refl, sym, true≢false}
use Rattle.std.specs.Prelude.{Bool, true, false, ◌||◌}
use Rattle.std.proofs.lemmas.Bool.{and_parts, false_from_ne_true, or_from, or_left, or_parts, or_right, true_from_ne_false}
use Rattle.es_tree.specs.Constructs.{is_object_rest}
use Rattle.es_tree.specs.Tree.{Tree, node, Label, Fields, done, ◌then◌, Field, missing, one, many, statements, Trees, empty, ◌before◌}
use Rattle.es_tree.specs.Walks.{any_in_field, any_in_fields, any_in_trees, any_node}
use Rattle.es_tree.specs.declared.ast_type.AstType.{AstType}
use Rattle.es_tree.specs.declared.ast_type.AstType.TheVariants.{ArrowFunctionExpression, AssignmentPattern, CatchClause, ForInStatement, ForOfStatement, FunctionBody, FunctionDeclaration, FunctionExpression, ObjectPattern, ObjectTarget, VariableDeclaration, VariableDeclarator}
use Rattle.es_pattern_moves.specs.Laws.{LawMovesAreRests}
use Rattle.es_pattern_moves.specs.PatternMoves.{all_may_move, all_move, is_rest_parameter, is_value, moves_from_arrow, moves_from_catch, moves_from_function, moves_from_head, moves_pattern, moves_with_body}
use Rattle.es_rest_shapes.specs.RestShapes.{any_tree, is_plain_pattern}
use Rattle.es_rest_shapes.proofs.NoneLeft.{bears-none}
use Rattle.es_rest_rows.proofs.PlainPatterns.{plain-bears}

-- PATTERNS

plain-rest : (p : Tree) → is_plain_pattern p ≡ true → any_node is_object_rest p ≡ true
plain-rest p h = true_from_ne_false (any_node is_object_rest p) (λ e. true≢false (sym (plain-bears p h) ∙ bears-none p e))

-- PARAMETERS

parameter-rest : (t : Tree) → is_rest_parameter t ≡ true → any_node is_object_rest t ≡ true
parameter-rest (node AssignmentPattern l (one p then one d then done)) h = or_left (any_node is_object_rest p) (any_in_fields is_object_rest (one d then done)) (plain-rest p h)
parameter-rest (node ObjectPattern l fs) h = plain-rest (node ObjectPattern l fs) h
parameter-rest (node _ l fs) h = absurd (cc h)

some-rest : (ps : Trees) → any_tree is_rest_parameter ps ≡ true → any_in_trees is_object_rest ps ≡ true
some-rest empty h = absurd (cc h)
some-rest (t before ts) h = at (is_rest_parameter t) refl h (λ k. some-rest ts k)
  where
    at : (b : Bool) → is_rest_parameter t ≡ b → (b || any_tree is_rest_parameter ts) ≡ true → (any_tree is_rest_parameter ts ≡ true → any_in_trees is_object_rest ts ≡ true) → any_in_trees is_object_rest (t before ts) ≡ true
    at true e k later = or_left (any_node is_object_rest t) (any_in_trees is_object_rest ts) (parameter-rest t e)
    at false e k later = or_right (any_node is_object_rest t) (any_in_trees is_object_rest ts) (later k)

body-rest : (ps : Trees) (b : Tree) → moves_with_body ps b ≡ true → any_in_trees is_object_rest ps ≡ true
body-rest ps (node FunctionBody l (many ds then statements ts then done)) h = some-rest ps (and_parts (any_tree is_rest_parameter ps) (all_may_move empty ps ts) h).0
body-rest ps e h = some-rest ps (and_parts (any_tree is_rest_parameter ps) (all_may_move empty ps (e before empty)) (and_parts (is_value e) (all_move ps (e before empty)) h).1).0

-- NODES

catch-rest : (fs : Fields) → moves_from_catch fs ≡ true → any_in_fields is_object_rest fs ≡ true
catch-rest (one p then one b then done) h = or_left (any_node is_object_rest p) (any_in_fields is_object_rest (one b then done)) (plain-rest p (and_parts (is_plain_pattern p) _ h).0)
catch-rest _ h = absurd (cc h)

head-rest : (fs : Fields) → moves_from_head fs ≡ true → any_in_fields is_object_rest fs ≡ true
head-rest (one (node VariableDeclaration l (many (node VariableDeclarator m (one p then missing then done) before empty) then done)) then one e then one b then done) h =
    let has : any_node is_object_rest p ≡ true = plain-rest p (and_parts (is_plain_pattern p) _ h).0 in
    rw has refl
head-rest (one (node ObjectTarget l gs) then one e then one b then done) h = let has : is_object_rest ObjectTarget l gs ≡ true = h in rw has refl
head-rest _ h = absurd (cc h)

function-rest : (fs : Fields) → moves_from_function fs ≡ true → any_in_fields is_object_rest fs ≡ true
function-rest (f then many ps then one b then done) h = or_right (any_in_field is_object_rest f) (any_in_fields is_object_rest (many ps then one b then done)) (or_left (any_in_trees is_object_rest ps) (any_in_fields is_object_rest (one b then done)) (body-rest ps b h))
function-rest _ h = absurd (cc h)

arrow-rest : (fs : Fields) → moves_from_arrow fs ≡ true → any_in_fields is_object_rest fs ≡ true
arrow-rest (many ps then one b then done) h = or_left (any_in_trees is_object_rest ps) (any_in_fields is_object_rest (one b then done)) (body-rest ps b h)
arrow-rest _ h = absurd (cc h)

moves-rest : (k : AstType) (l : Label) (fs : Fields) → moves_pattern k l fs ≡ true → any_in_fields is_object_rest fs ≡ true
moves-rest CatchClause l fs h = catch-rest fs h
moves-rest ForInStatement l fs h = head-rest fs h
moves-rest ForOfStatement l fs h = head-rest fs h
moves-rest FunctionDeclaration l fs h = function-rest fs h
moves-rest FunctionExpression l fs h = function-rest fs h
moves-rest ArrowFunctionExpression l fs h = arrow-rest fs h
moves-rest _ l fs h = absurd (cc h)

-- EVERY NODE

none-moves : (k : AstType) (l : Label) (fs : Fields) → any_in_fields is_object_rest fs ≡ false → moves_pattern k l fs ≡ false
none-moves k l fs e = false_from_ne_true (moves_pattern k l fs) (λ h. true≢false (sym (moves-rest k l fs h) ∙ e))

mutual
  tree-none : (t : Tree) → any_node is_object_rest t ≡ false → any_node moves_pattern t ≡ false
  tree-none (node k l fs) e = let h = or_parts (is_object_rest k l fs) (any_in_fields is_object_rest fs) e in or_from (moves_pattern k l fs) (any_in_fields moves_pattern fs) (none-moves k l fs h.1) (fields-none fs h.1)

  fields-none : (fs : Fields) → any_in_fields is_object_rest fs ≡ false → any_in_fields moves_pattern fs ≡ false
  fields-none done e = refl
  fields-none (f then fs) e = let h = or_parts (any_in_field is_object_rest f) (any_in_fields is_object_rest fs) e in or_from (any_in_field moves_pattern f) (any_in_fields moves_pattern fs) (field-none f h.0) (fields-none fs h.1)

  field-none : (f : Field) → any_in_field is_object_rest f ≡ false → any_in_field moves_pattern f ≡ false
  field-none missing e = refl
  field-none (one t) e = tree-none t e
  field-none (many ts) e = trees-none ts e
  field-none (statements ts) e = trees-none ts e

  trees-none : (ts : Trees) → any_in_trees is_object_rest ts ≡ false → any_in_trees moves_pattern ts ≡ false
  trees-none empty e = refl
  trees-none (t before ts) e = let h = or_parts (any_node is_object_rest t) (any_in_trees is_object_rest ts) e in or_from (any_node moves_pattern t) (any_in_trees moves_pattern ts) (tree-none t h.0) (trees-none ts h.1)

pub law_moves_are_rests_proof : LawMovesAreRests
law_moves_are_rests_proof = tree-none
