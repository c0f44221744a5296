-- What holds no pattern with a rest holds none that isn't lowered.
use Rattle.std.proofs.Common.{◌≡◌, refl}
use Rattle.std.specs.Prelude.{false, ◌||◌, ◌&&◌, not, Bool}
use Rattle.std.proofs.lemmas.Bool.{or_from, or_parts}
use Rattle.es_tree.specs.Constructs.{is_object_rest}
use Rattle.es_tree.specs.Tree.{Tree, node, Label, Fields, done, ◌then◌, Field, missing, one, many, statements, Trees, empty, ◌before◌}
use Rattle.es_tree.specs.Walks.{any_in_field, any_in_fields, any_in_trees, any_node}
use Rattle.es_tree.specs.declared.ast_type.AstType.{AstType}
use Rattle.es_tree.specs.declared.ast_type.AstType.TheVariants.{AssignmentExpression, AssignmentPattern, ExportNamedDeclaration, ObjectPattern, PatternProperty, VariableDeclaration, VariableDeclarator}
use Rattle.es_tree.specs.RestTargets.{is_rest_assignment}
use Rattle.es_rest_shapes.specs.RestShapes.{any_beside, any_child, any_child_by, any_tree, bears_rest, declares_rest, is_misplaced, is_odd_pattern, is_plain_pattern, is_rest_declarator, is_stray_rest}
use Rattle.es_rest_shapes.proofs.NoneLeft.{bears-none, declaration-rest, declarator-rest}

misplaced-none : (t : Tree) → any_node is_object_rest t ≡ false → is_misplaced t ≡ false
misplaced-none t e = or_from (bears_rest t) (is_rest_declarator t) (bears-none t e) (declarator-rest t e)

declares-none : (t : Tree) → any_node is_object_rest t ≡ false → declares_rest t ≡ false
declares-none (node k l fs) e = declaration-rest k l fs (or_parts (is_object_rest k l fs) (any_in_fields is_object_rest fs) e).1

odd-none : (t : Tree) → any_node is_object_rest t ≡ false → is_odd_pattern t ≡ false
odd-none t e = or_from (bears_rest t && not (is_plain_pattern t)) (is_rest_declarator t) (first (bears_rest t) (not (is_plain_pattern t)) (bears-none t e)) (declarator-rest t e)
  where
    first : (a b : Bool) → a ≡ false → (a && b) ≡ false
    first a b h = rw h refl

-- a test that no tree without such a pattern passes
module _ (p : Tree → Bool) (none : (t : Tree) → any_node is_object_rest t ≡ false → p t ≡ false) where
  trees-none : (ts : Trees) → any_in_trees is_object_rest ts ≡ false → any_tree p ts ≡ false
  trees-none empty e = refl
  trees-none (t before ts) e = let h = or_parts (any_node is_object_rest t) (any_in_trees is_object_rest ts) e in or_from (p t) (any_tree p ts) (none t h.0) (trees-none ts h.1)

  child-none : (f : Field) → any_in_field is_object_rest f ≡ false → any_child_by p f ≡ false
  child-none missing e = refl
  child-none (one t) e = none t e
  child-none (many ts) e = trees-none ts e
  child-none (statements ts) e = trees-none ts e

  children-none : (fs : Fields) → any_in_fields is_object_rest fs ≡ false → any_child p fs ≡ false
  children-none done e = refl
  children-none (f then fs) e = let h = or_parts (any_in_field is_object_rest f) (any_in_fields is_object_rest fs) e in or_from (any_child_by p f) (any_child p fs) (child-none f h.0) (children-none fs h.1)

placed : (fs : Fields) → any_in_fields is_object_rest fs ≡ false → any_child is_misplaced fs ≡ false
placed = children-none is_misplaced misplaced-none

beside-none : (fs : Fields) → any_in_fields is_object_rest fs ≡ false → any_beside fs ≡ false
beside-none done e = refl
beside-none (f then fs) e =
    let h = or_parts (any_in_field is_object_rest f) (any_in_fields is_object_rest fs) e in
    or_from (any_child_by is_rest_declarator f) (any_child is_misplaced fs) (child-none is_rest_declarator declarator-rest f h.0) (placed fs h.1)

pub stray-none : (k : AstType) (l : Label) (fs : Fields) → any_in_fields is_object_rest fs ≡ false → is_stray_rest k l fs ≡ false
stray-none VariableDeclarator l (one p then one e then done) h =
    let g = or_parts (any_node is_object_rest p) (any_node is_object_rest e || false) h in
    or_from (is_odd_pattern p) (is_misplaced e) (odd-none p g.0) (misplaced-none e (or_parts (any_node is_object_rest e) false g.1).0)
stray-none VariableDeclarator l (one p then one e then f then fs) h = placed (one p then one e then f then fs) h
stray-none VariableDeclarator l (one p then many ts then fs) h = placed (one p then many ts then fs) h
stray-none VariableDeclarator l (one p then statements ts then fs) h = placed (one p then statements ts then fs) h
stray-none VariableDeclarator l (one p then missing then fs) h = placed (one p then missing then fs) h
stray-none VariableDeclarator l (one p then done) h = placed (one p then done) h
stray-none VariableDeclarator l (many ts then fs) h = placed (many ts then fs) h
stray-none VariableDeclarator l (statements ts then fs) h = placed (statements ts then fs) h
stray-none VariableDeclarator l (missing then fs) h = placed (missing then fs) h
stray-none VariableDeclarator l done h = refl
stray-none VariableDeclaration l (many ds then done) h = trees-none bears_rest bears-none ds (or_parts (any_in_trees is_object_rest ds) false h).0
stray-none VariableDeclaration l (many ds then f then fs) h = placed (many ds then f then fs) h
stray-none VariableDeclaration l (one t then fs) h = placed (one t then fs) h
stray-none VariableDeclaration l (statements ts then fs) h = placed (statements ts then fs) h
stray-none VariableDeclaration l (missing then fs) h = placed (missing then fs) h
stray-none VariableDeclaration l done h = refl
stray-none ExportNamedDeclaration l fs h = children-none (λ t. is_misplaced t || declares_rest t) (λ t e. or_from (is_misplaced t) (declares_rest t) (misplaced-none t e) (declares-none t e)) fs h
stray-none ObjectPattern l fs h = beside-none fs h
stray-none PatternProperty l (k then fs) h =
    let g = or_parts (any_in_field is_object_rest k) (any_in_fields is_object_rest fs) h in
    or_from (any_child_by is_misplaced k) (any_beside fs) (child-none is_misplaced misplaced-none k g.0) (beside-none fs g.1)
stray-none PatternProperty l done h = refl
stray-none AssignmentPattern l fs h = beside-none fs h
stray-none AssignmentExpression l (f then fs) h =
    let g = or_parts (any_child_by is_misplaced f) (any_child is_misplaced fs) (placed (f then fs) h) in
    or_from (any_child_by is_misplaced f && not (is_rest_assignment AssignmentExpression l (f then fs))) (any_child is_misplaced fs) (at (any_child_by is_misplaced f) (not (is_rest_assignment AssignmentExpression l (f then fs))) g.0) g.1
  where
    at : (a b : Bool) → a ≡ false → (a && b) ≡ false
    at a b e = rw e refl
stray-none AssignmentExpression l done h = refl
stray-none _ l fs h = placed fs h
