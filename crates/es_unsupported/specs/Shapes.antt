-- The shapes that a run doesn't take: one row of a table for each, asked in order at each node.
use Rattle.std.specs.Prelude.{ℕ, List, [], ◌∷◌, Bool, false, ◌&&◌, ◌||◌, not, Option, Some, None, is_some, codes, if◌then◌else◌}
use Rattle.es_tree.specs.Children.{child_at}
use Rattle.es_tree.specs.Constructs.{is_exponentiation, is_using}
use Rattle.es_tree.specs.Tree.{Tree, node, Label, Fields, ◌then◌, one}
use Rattle.es_tree.specs.declared.ast_type.AstType.{AstType}
use Rattle.es_tree.specs.declared.ast_type.AstType.TheVariants.{ArrowFunctionExpression, AssignmentPattern, FunctionDeclaration, FunctionExpression, VariableDeclaration, VariableDeclarator}
use Rattle.es_tree.specs.declared.error.UnsupportedKind.{UnsupportedKind}
use Rattle.es_tree.specs.declared.error.UnsupportedKind.TheVariants.{HeadName, HelperName, MathBound, NotBuilt, RestParameter, SpreadLiteral, TagChain, UsingFunction}
use Rattle.es_tree.specs.declared.ids.NodeId.{NodeId}
use Rattle.es_tree.specs.declared.options.EnvOptions.{EnvOptions}
use Rattle.es_semantic.specs.SymbolsOf.{Declared, find}
use Rattle.es_conditions.specs.CoreConditions.{is_copied}
use Rattle.es_rest_shapes.specs.HelperNames.{binds_helpers}
use Rattle.es_rest_shapes.specs.RestShapes.{any_child, is_plain_pattern, is_rest_declaration, is_stray_rest}
use Rattle.es_chain_tags.specs.ChainTags.{has_chain_tag}
use Rattle.es_using_heads.specs.Heads.{asks_its_name}
use Rattle.es_using_nodes.specs.Clashes.{clashes}
use Rattle.es_unsupported.specs.PatternPlaces.{nests_patterns}
use Rattle.es_unsupported.specs.SpreadLiterals.{is_uncopied}

-- THE SHAPES, each told by the options, the symbols of the program, the scopes around a node, the innermost first, and the node

-- whether the first child is an object pattern with a rest, itself or in a property, that may move, or is lowered where it is declared with a value
abbrev pub begins_with_rest : Fields → Bool
begins_with_rest (one p then fs) = is_plain_pattern p
begins_with_rest _ = false

-- a parameter that is such a pattern, alone or with a default value (14.3.3, 15.1)
abbrev pub is_rest_parameter : Tree → Bool
is_rest_parameter (node AssignmentPattern l fs) = begins_with_rest fs
is_rest_parameter t = is_plain_pattern t

abbrev pub has_rest_parameter : AstType → Fields → Bool
has_rest_parameter FunctionDeclaration fs = any_child is_rest_parameter fs
has_rest_parameter FunctionExpression fs = any_child is_rest_parameter fs
has_rest_parameter ArrowFunctionExpression fs = any_child is_rest_parameter fs
has_rest_parameter _ fs = false

-- A node that holds an object pattern with a rest, itself or in a property, that no declarator with a value declares, or that is exported (14.3.3), but
-- for an array and what is assigned to, in which it is told at its own node; or a function with such a parameter.
abbrev pub holds_stray : AstType → Label → Fields → Bool
holds_stray k l fs = (not (nests_patterns k) && is_stray_rest k l fs) || has_rest_parameter k fs

-- A construct that no lowering takes: such a node, and `using` (14.3, with Explicit Resource Management), which is lowered before unless the program
-- binds `babelHelpers`, of which the helper is a property.
abbrev pub is_unbuilt_node : EnvOptions → AstType → Label → Fields → Bool
is_unbuilt_node o k l fs =
    (is_some o.es2018.object_rest_spread && holds_stray k l fs)
    || (o.es2026.explicit_resource_management && is_using k l fs)

abbrev pub is_unbuilt : EnvOptions → List Declared → List ℕ → AstType → Label → Fields → Bool
is_unbuilt o ds up k l fs = is_unbuilt_node o k l fs

-- THE NAME of such a construct, by its node: a declaration is one by `using`, since a list of declarators holds no pattern itself. Where patterns move
-- out of heads and parameters, those that may not are left: in the head of a `for-in` or `for-of` (14.7.5) one whose names the right side asks, and a
-- parameter that other names could see otherwise (10.2.11).

abbrev pub declares_head : Fields → Bool
declares_head fs = begins_with_rest fs && not (is_some (child_at 1 fs))

abbrev pub declarator_shape : Fields → UnsupportedKind
declarator_shape fs = if declares_head fs then HeadName else NotBuilt

abbrev pub parameter_shape : AstType → Fields → UnsupportedKind
parameter_shape k fs = if has_rest_parameter k fs then RestParameter else NotBuilt

abbrev pub stray_shape : AstType → Fields → UnsupportedKind
stray_shape VariableDeclaration fs = HelperName
stray_shape VariableDeclarator fs = declarator_shape fs
stray_shape k fs = parameter_shape k fs

-- an exponentiation that is lowered where `Math`, whose `pow` is to be called, finds a binding (ECMA-262, 13.6, 13.15)
abbrev pub is_math_bound : EnvOptions → List Declared → List ℕ → AstType → Label → Fields → Bool
is_math_bound o ds up k l fs = o.es2016.exponentiation_operator && is_exponentiation k l fs && is_some (find ds up (codes "Math"))

-- An object literal with a spread (13.2.5), or an object pattern with a rest that is assigned to (13.15.5), where `babelHelpers`, of which the helper is
-- a property, finds a binding; also where helpers are imported, since it is a property until then.
abbrev pub finds_helper : List Declared → List ℕ → AstType → Label → Fields → Bool
finds_helper ds up k l fs = is_copied k l fs && is_some (find ds up (codes "babelHelpers"))

-- and a declaration of a rest in a program that binds it anywhere
abbrev pub finds_helpers : List Declared → List ℕ → AstType → Label → Fields → Bool
finds_helpers ds up k l fs = finds_helper ds up k l fs || (is_rest_declaration k l fs && binds_helpers ds)

-- the same in a program that binds it
abbrev pub meets_helpers : List Declared → List ℕ → AstType → Label → Fields → Bool
meets_helpers ds up k l fs = finds_helper ds up k l fs || is_rest_declaration k l fs

abbrev pub is_helper_bound : EnvOptions → List Declared → List ℕ → AstType → Label → Fields → Bool
is_helper_bound o ds up k l fs = is_some o.es2018.object_rest_spread && finds_helpers ds up k l fs

-- one whose properties can't be defined apart and copied
abbrev pub is_spread_literal : EnvOptions → List Declared → List ℕ → AstType → Label → Fields → Bool
is_spread_literal o ds up k l fs = is_some o.es2018.object_rest_spread && is_uncopied k l fs

-- where chains are lowered
abbrev pub is_tag_chain : EnvOptions → List Declared → List ℕ → AstType → Label → Fields → Bool
is_tag_chain o ds up k l fs = o.es2020.optional_chaining && has_chain_tag k l fs

-- `using` in the head of a loop whose right side asks its name, before it is set (14.7.5)
abbrev pub is_head_name : EnvOptions → List Declared → List ℕ → AstType → Label → Fields → Bool
is_head_name o ds up k l fs = o.es2026.explicit_resource_management && asks_its_name k l fs

-- and in a body, or a static block of a class, whose functions at the top can't become those of a block (14.2.1)
abbrev pub is_using_function : EnvOptions → List Declared → List ℕ → AstType → Label → Fields → Bool
is_using_function o ds up k l fs = o.es2026.explicit_resource_management && clashes k fs

-- THE TABLE

pub record Row : Type 0 where
  pub shape : AstType → Fields → UnsupportedKind
  pub holds : EnvOptions → List Declared → List ℕ → AstType → Label → Fields → Bool

-- of every node
abbrev pub always : UnsupportedKind → AstType → Fields → UnsupportedKind
always shape k fs = shape

abbrev pub rows : List Row
rows =
    record { shape = stray_shape; holds = is_unbuilt } ∷ record { shape = always MathBound; holds = is_math_bound } ∷ record { shape = always HelperName; holds = is_helper_bound } ∷
    record { shape = always SpreadLiteral; holds = is_spread_literal } ∷ record { shape = always TagChain; holds = is_tag_chain } ∷ record { shape = always HeadName; holds = is_head_name } ∷
    record { shape = always UsingFunction; holds = is_using_function } ∷ []

-- the shape of the first of these rows that holds
abbrev pub first_row : List Row → EnvOptions → List Declared → List ℕ → AstType → Label → Fields → Option UnsupportedKind
first_row [] o ds up k l fs = None
first_row (r ∷ rs) o ds up k l fs = if r.holds o ds up k l fs then Some (r.shape k fs) else first_row rs o ds up k l fs

abbrev pub shape_at : EnvOptions → List Declared → List ℕ → AstType → Label → Fields → Option UnsupportedKind
shape_at = first_row rows

-- what is found, with the id of its node as a number
abbrev pub plain_found : UnsupportedKind × NodeId → UnsupportedKind × ℕ
plain_found found = (found.0, found.1.0)
