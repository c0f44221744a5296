-- What holds no object pattern with a rest holds none that isn't lowered, and is no function with such a parameter; and what is none is told in no pattern.
use Rattle.std.proofs.Common.{◌≡◌, ap, refl}
use Rattle.std.specs.Prelude.{false, ◌&&◌, Bool, true, not, None, is_some, if◌then◌else◌}
use Rattle.std.proofs.lemmas.Bool.{or_from, or_parts}
use Rattle.es_tree.specs.Constructs.{is_object_rest}
use Rattle.es_tree.specs.Tree.{Tree, node, Label, Fields, done, ◌then◌, Field, missing, one, many, statements, Trees, empty, ◌before◌}
use Rattle.es_tree.specs.Walks.{any_in_field, any_in_fields, any_in_trees, any_node}
use Rattle.es_tree.specs.declared.ast_type.AstType.{AstType}
use Rattle.es_tree.specs.declared.ast_type.AstType.TheVariants.{ArrowFunctionExpression, AssignmentPattern, FunctionDeclaration, FunctionExpression, ObjectPattern}
use Rattle.es_tree.specs.declared.options.EnvOptions.{EnvOptions}
use Rattle.es_rest_shapes.specs.RestShapes.{any_child, any_child_by, any_tree, are_plain_parts, bears_rest, is_plain_pattern, is_stray_rest}
use Rattle.es_rest_shapes.proofs.NoneLeft.{bears-none}
use Rattle.es_rest_shapes.proofs.Quiet.{stray-none}
use Rattle.es_unsupported.specs.PatternPlaces.{nested_shape, nests_patterns, pattern_shape}
use Rattle.es_unsupported.specs.Shapes.{begins_with_rest, has_rest_parameter, holds_stray, is_rest_parameter}
use Rattle.es_unsupported.specs.declared.pattern_places.PatternPlace.{PatternPlace}

-- a plain pattern bears a rest

pub last-off : (a b : Bool) → b ≡ false → (a && b) ≡ false
last-off true b h = h
last-off false b h = refl

plain-rest : (t : Tree) → bears_rest t ≡ false → is_plain_pattern t ≡ false
plain-rest (node ObjectPattern l fs) h = ap (λ b. b && are_plain_parts fs) h
plain-rest (node _ l fs) h = refl

plain-none : (t : Tree) → any_node is_object_rest t ≡ false → is_plain_pattern t ≡ false
plain-none t h = plain-rest t (bears-none t h)

-- PARAMETERS

begins-none : (fs : Fields) → any_in_fields is_object_rest fs ≡ false → begins_with_rest fs ≡ false
begins-none (one p then fs) h = plain-none p (or_parts (any_node is_object_rest p) (any_in_fields is_object_rest fs) h).0
begins-none (missing then fs) h = refl
begins-none (many ts then fs) h = refl
begins-none (statements ts then fs) h = refl
begins-none done h = refl

parameter-none : (t : Tree) → any_node is_object_rest t ≡ false → is_rest_parameter t ≡ false
parameter-none (node AssignmentPattern l fs) h = begins-none fs h
parameter-none (node k l fs) h = plain-none (node k l fs) h

trees-none : (ts : Trees) → any_in_trees is_object_rest ts ≡ false → any_tree is_rest_parameter ts ≡ false
trees-none empty h = refl
trees-none (t before ts) h =
    let g = or_parts (any_node is_object_rest t) (any_in_trees is_object_rest ts) h in
    or_from (is_rest_parameter t) (any_tree is_rest_parameter ts) (parameter-none t g.0) (trees-none ts g.1)

child-none : (f : Field) → any_in_field is_object_rest f ≡ false → any_child_by is_rest_parameter f ≡ false
child-none missing h = refl
child-none (one t) h = parameter-none t h
child-none (many ts) h = trees-none ts h
child-none (statements ts) h = trees-none ts h

children-none : (fs : Fields) → any_in_fields is_object_rest fs ≡ false → any_child is_rest_parameter fs ≡ false
children-none done h = refl
children-none (f then fs) h =
    let g = or_parts (any_in_field is_object_rest f) (any_in_fields is_object_rest fs) h in
    or_from (any_child_by is_rest_parameter f) (any_child is_rest_parameter fs) (child-none f g.0) (children-none fs g.1)

has_parameter-none : (k : AstType) (fs : Fields) → any_in_fields is_object_rest fs ≡ false → has_rest_parameter k fs ≡ false
has_parameter-none FunctionDeclaration fs h = children-none fs h
has_parameter-none FunctionExpression fs h = children-none fs h
has_parameter-none ArrowFunctionExpression fs h = children-none fs h
has_parameter-none _ fs h = refl

pub holds_stray-none : (k : AstType) (l : Label) (fs : Fields) → any_in_fields is_object_rest fs ≡ false → holds_stray k l fs ≡ false
holds_stray-none k l fs h =
    or_from (not (nests_patterns k) && is_stray_rest k l fs) (has_rest_parameter k fs) (last-off (not (nests_patterns k)) (is_stray_rest k l fs) (stray-none k l fs h)) (has_parameter-none k fs h)

-- nor is a node without a rest told inside a pattern
pub pattern-none : (o : EnvOptions) (q : PatternPlace) (k : AstType) (l : Label) (fs : Fields) → (is_some o.es2018.object_rest_spread && is_object_rest k l fs) ≡ false → pattern_shape o q k l fs ≡ None
pattern-none o q k l fs h = ap (λ b. if b then nested_shape q else None) h
