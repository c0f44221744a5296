-- The constructs that lowerings take away, each told by a node's kind, its label and its fields: a row for each, and
-- the options that ask for them. "Directly" means with no parentheses between.
use Rattle.std.specs.Prelude.{ℕ, zero, suc, Bool, true, false, ◌&&◌, ◌||◌, not, is_some, bytes_eq, codes}
use Rattle.es_tree.specs.Names.{first_text}
use Rattle.es_tree.specs.Parens.{without_parens}
use Rattle.es_tree.specs.Tree.{Tree, Label, Fields, done, ◌then◌, Field, missing, one, many, Trees, empty, ◌before◌, kind_of, fields_of}
use Rattle.es_tree.specs.Walks.{any_node}
use Rattle.es_tree.specs.declared.ast_type.AstType.{AstType}
use Rattle.es_tree.specs.declared.ast_type.AstType.TheVariants.{
  ArrowFunctionExpression,
  AssignmentExpression,
  BigIntLiteral,
  BinaryExpression,
  CatchClause,
  ChainExpression,
  ExportAllDeclaration,
  LogicalExpression,
  MemberExpression,
  ObjectExpression,
  ObjectPattern,
  ObjectTarget,
  PrivateIdentifier,
  RestElement,
  SpreadElement,
  TargetRest,
  VariableDeclaration,
}
use Rattle.es_tree.specs.declared.options.EnvOptions.{EnvOptions}

-- the field at this place, counted from 0, missing past the last
abbrev pub field_at : ℕ → Fields → Field
field_at n done = missing
field_at zero (f then fs) = f
field_at (suc n) (f then fs) = field_at n fs

-- whether the field is one node of a kind that passes the test
abbrev pub is_child : (AstType → Bool) → Field → Bool
is_child p (one t) = p (kind_of t)
is_child p _ = false

-- whether a node of the list is of a kind that passes the test
abbrev pub any_kind : (AstType → Bool) → Trees → Bool
any_kind p empty = false
any_kind p (t before ts) = p (kind_of t) || any_kind p ts

-- whether the field is a list with such a node
abbrev pub has_member : (AstType → Bool) → Field → Bool
has_member p (many ts) = any_kind p ts
has_member p _ = false

abbrev pub stands : Field → Bool
stands missing = false
stands _ = true

abbrev pub is_big_int : AstType → Bool
is_big_int BigIntLiteral = true
is_big_int _ = false

abbrev pub is_private_name : AstType → Bool
is_private_name PrivateIdentifier = true
is_private_name _ = false

abbrev pub is_spread : AstType → Bool
is_spread SpreadElement = true
is_spread _ = false

abbrev pub is_rest : AstType → Bool
is_rest RestElement = true
is_rest TargetRest = true
is_rest _ = false

-- `l ** r` with no BigInt literal directly at either side (ECMA-262, 13.6), and `t **= r` with none directly at its
-- right (13.15)
abbrev pub is_exponentiation : AstType → Label → Fields → Bool
is_exponentiation BinaryExpression l fs =
    bytes_eq (first_text l.texts) (codes "**") && not (is_child is_big_int (field_at 0 fs)) && not (is_child is_big_int (field_at 1 fs))
is_exponentiation AssignmentExpression l fs =
    bytes_eq (first_text l.texts) (codes "**=") && not (is_child is_big_int (field_at 1 fs))
is_exponentiation _ l fs = false

-- `l ?? r` (13.13)
abbrev pub is_nullish_coalescing : AstType → Label → Fields → Bool
is_nullish_coalescing LogicalExpression l fs = bytes_eq (first_text l.texts) (codes "??")
is_nullish_coalescing _ l fs = false

-- an optional chain (13.3.9)
abbrev pub is_chain : AstType → Label → Fields → Bool
is_chain ChainExpression l fs = true
is_chain _ l fs = false

-- a member with a private name, `o.#p` (13.3.2)
abbrev pub is_private_member : AstType → Fields → Bool
is_private_member MemberExpression fs = is_child is_private_name (field_at 1 fs)
is_private_member _ fs = false

-- whether the field is such a member, maybe in parentheses
abbrev pub is_private_target : Field → Bool
is_private_target (one t) = is_private_member (kind_of (without_parens t)) (fields_of (without_parens t))
is_private_target _ = false

-- `t ||= r`, `t &&= r` and `t ??= r` (13.15), unless the target is a private member
abbrev pub is_logical_assignment : AstType → Label → Fields → Bool
is_logical_assignment AssignmentExpression l fs =
    (bytes_eq (first_text l.texts) (codes "||=") || bytes_eq (first_text l.texts) (codes "&&=") || bytes_eq (first_text l.texts) (codes "??="))
    && not (is_private_target (field_at 0 fs))
is_logical_assignment _ l fs = false

-- `catch { .. }` without a parameter (14.15)
abbrev pub is_optional_catch : AstType → Label → Fields → Bool
is_optional_catch CatchClause l fs = not (stands (field_at 0 fs))
is_optional_catch _ l fs = false

-- `export * as n from "m"` (16.2.3)
abbrev pub is_namespace_export : AstType → Label → Fields → Bool
is_namespace_export ExportAllDeclaration l fs = stands (field_at 0 fs)
is_namespace_export _ l fs = false

-- an object literal with a spread (13.2.5)
abbrev pub is_object_spread : AstType → Label → Fields → Bool
is_object_spread ObjectExpression l fs = has_member is_spread (field_at 0 fs)
is_object_spread _ l fs = false

-- an object pattern with a rest, of bindings (14.3.3) or of assignment targets (13.15.5)
abbrev pub is_object_rest : AstType → Label → Fields → Bool
is_object_rest ObjectPattern l fs = has_member is_rest (field_at 0 fs)
is_object_rest ObjectTarget l fs = has_member is_rest (field_at 0 fs)
is_object_rest _ l fs = false

-- `using x = v` (14.3, with Explicit Resource Management)
abbrev pub is_using : AstType → Label → Fields → Bool
is_using VariableDeclaration l fs = bytes_eq (first_text l.texts) (codes "using")
is_using _ l fs = false

-- an arrow function (15.3)
abbrev pub is_arrow : AstType → Label → Fields → Bool
is_arrow ArrowFunctionExpression l fs = true
is_arrow _ l fs = false

-- the rows of expressions and patterns that the options ask to lower
abbrev pub is_enabled_expression : EnvOptions → AstType → Label → Fields → Bool
is_enabled_expression o k l fs =
    (o.es2016.exponentiation_operator && is_exponentiation k l fs)
    || (o.es2020.nullish_coalescing_operator && is_nullish_coalescing k l fs)
    || (o.es2020.optional_chaining && is_chain k l fs)
    || (o.es2021.logical_assignment_operators && is_logical_assignment k l fs)
    || (is_some o.es2018.object_rest_spread && (is_object_spread k l fs || is_object_rest k l fs))
    || (is_some o.es2015.arrow_function && is_arrow k l fs)

-- the rows of statements
abbrev pub is_enabled_statement : EnvOptions → AstType → Label → Fields → Bool
is_enabled_statement o k l fs =
    (o.es2019.optional_catch_binding && is_optional_catch k l fs)
    || (o.es2020.export_namespace_from && is_namespace_export k l fs)
    || (o.es2026.explicit_resource_management && is_using k l fs)

-- whether the node is a construct that the options ask to lower
abbrev pub is_enabled_construct : EnvOptions → AstType → Label → Fields → Bool
is_enabled_construct o k l fs = is_enabled_expression o k l fs || is_enabled_statement o k l fs

-- whether such a node stands anywhere in the tree
abbrev pub has_enabled_construct : EnvOptions → Tree → Bool
has_enabled_construct o t = any_node (is_enabled_construct o) t

-- whether a `??` stands anywhere in the tree
abbrev pub has_nullish_coalescing : Tree → Bool
has_nullish_coalescing t = any_node is_nullish_coalescing t
