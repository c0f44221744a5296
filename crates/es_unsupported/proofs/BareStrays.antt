-- Object rests that aren't lowered, and the names of their nodes, look at no mark and no id.
use Rattle.std.proofs.Common.{◌≡◌, ap, refl}
use Rattle.std.specs.Prelude.{◌&&◌, ◌||◌, not, if◌then◌else◌}
use Rattle.es_tree.specs.Bare.{bare, bare_field, bare_fields, bare_label, bare_trees}
use Rattle.es_tree.specs.Tree.{Tree, node, Label, Fields, done, ◌then◌, Field, missing, one, many, statements, Trees, empty, ◌before◌}
use Rattle.es_tree.specs.declared.ast_type.AstType.{AstType}
use Rattle.es_tree.specs.declared.ast_type.AstType.TheVariants.{ArrowFunctionExpression, AssignmentPattern, FunctionDeclaration, FunctionExpression, VariableDeclaration, VariableDeclarator}
use Rattle.es_tree.specs.declared.error.UnsupportedKind.TheVariants.{HeadName, NotBuilt, RestParameter}
use Rattle.es_rest_shapes.specs.RestShapes.{any_child, any_child_by, any_tree}
use Rattle.es_rest_shapes.proofs.BareRests.{plain-bare, stray-bare}
use Rattle.es_unsupported.specs.PatternPlaces.{nests_patterns}
use Rattle.es_unsupported.specs.Shapes.{begins_with_rest, declares_head, has_rest_parameter, holds_stray, is_rest_parameter, stray_shape}
use Rattle.es_unsupported.proofs.BareNodes.{has_child-bare}

begins-bare : (fs : Fields) → begins_with_rest (bare_fields fs) ≡ begins_with_rest fs
begins-bare (one p then fs) = plain-bare p
begins-bare (missing then fs) = refl
begins-bare (many ts then fs) = refl
begins-bare (statements ts then fs) = refl
begins-bare done = refl

rest_parameter-bare : (t : Tree) → is_rest_parameter (bare t) ≡ is_rest_parameter t
rest_parameter-bare (node AssignmentPattern l fs) = begins-bare fs
rest_parameter-bare (node k l fs) = plain-bare (node k l fs)

among-bare : (ts : Trees) → any_tree is_rest_parameter (bare_trees ts) ≡ any_tree is_rest_parameter ts
among-bare empty = refl
among-bare (t before ts) = λ i. rest_parameter-bare t i || among-bare ts i

in_field-bare : (f : Field) → any_child_by is_rest_parameter (bare_field f) ≡ any_child_by is_rest_parameter f
in_field-bare missing = refl
in_field-bare (one t) = rest_parameter-bare t
in_field-bare (many ts) = among-bare ts
in_field-bare (statements ts) = among-bare ts

parameters-bare : (fs : Fields) → any_child is_rest_parameter (bare_fields fs) ≡ any_child is_rest_parameter fs
parameters-bare done = refl
parameters-bare (f then fs) = λ i. in_field-bare f i || parameters-bare fs i

has_parameter-bare : (k : AstType) (fs : Fields) → has_rest_parameter k (bare_fields fs) ≡ has_rest_parameter k fs
has_parameter-bare FunctionDeclaration fs = parameters-bare fs
has_parameter-bare FunctionExpression fs = parameters-bare fs
has_parameter-bare ArrowFunctionExpression fs = parameters-bare fs
has_parameter-bare _ fs = refl

pub holds_stray-bare : (k : AstType) (l : Label) (fs : Fields) → holds_stray k (bare_label l) (bare_fields fs) ≡ holds_stray k l fs
holds_stray-bare k l fs = λ i. (not (nests_patterns k) && stray-bare k l fs i) || has_parameter-bare k fs i

head-bare : (fs : Fields) → declares_head (bare_fields fs) ≡ declares_head fs
head-bare fs = λ i. begins-bare fs i && not (has_child-bare 1 fs i)

pub stray_shape-bare : (k : AstType) (fs : Fields) → stray_shape k (bare_fields fs) ≡ stray_shape k fs
stray_shape-bare VariableDeclaration fs = refl
stray_shape-bare VariableDeclarator fs = ap (λ b. if b then HeadName else NotBuilt) (head-bare fs)
stray_shape-bare k fs = ap (λ b. if b then RestParameter else NotBuilt) (has_parameter-bare k fs)
