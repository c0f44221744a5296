-- Names that a tree declares anywhere (ECMA-262, 8.2), told with no scopes.
use Rattle.std.specs.Prelude.{ℕ, zero, suc, ◌≡◌, ◌&&◌, ◌||◌, Bool, true, false, Option, Some, None, bytes_eq}
use Rattle.es_tree.specs.Children.{child_at}
use Rattle.es_tree.specs.Names.{first_text}
use Rattle.es_tree.specs.Scopes.{own_text}
use Rattle.es_tree.specs.Tree.{Tree, node, Label, Fields, done, ◌then◌, Field, missing, one, many, statements, Trees, empty, ◌before◌}
use Rattle.es_tree.specs.Words.{Text}
use Rattle.es_tree.specs.declared.ast_type.AstType.{AstType}
use Rattle.es_tree.specs.declared.ast_type.AstType.TheVariants.{
  ArrayPattern,
  ArrayTarget,
  ArrowFunctionExpression,
  AssignmentPattern,
  CatchClause,
  ClassDeclaration,
  ClassExpression,
  ExportDefaultDeclaration,
  ExportNamedDeclaration,
  ExportSpecifier,
  FunctionDeclaration,
  FunctionExpression,
  Identifier,
  ImportDefaultSpecifier,
  ImportNamespaceSpecifier,
  ImportSpecifier,
  ObjectPattern,
  ObjectTarget,
  ParenthesizedExpression,
  PatternProperty,
  RestElement,
  TargetProperty,
  TargetRest,
  TargetWithDefault,
  VariableDeclaration,
  VariableDeclarator,
}
use Rattle.es_semantic.specs.SymbolsOf.{symbols_of}
use Rattle.es_rest_shapes.specs.HelperNames.{binds_name}

-- Whether an identifier is declared that stands in this field of a node, where one in place of the node would be, or not: patterns hand it on.
abbrev pub declares_at : Bool → AstType → ℕ → Bool
declares_at b VariableDeclaration zero = true
declares_at b FunctionDeclaration zero = true
declares_at b FunctionDeclaration (suc zero) = true
declares_at b FunctionExpression zero = true
declares_at b FunctionExpression (suc zero) = true
declares_at b ArrowFunctionExpression zero = true
declares_at b ClassDeclaration zero = true
declares_at b ClassExpression zero = true
declares_at b CatchClause zero = true
declares_at b ImportSpecifier (suc zero) = true
declares_at b ImportDefaultSpecifier zero = true
declares_at b ImportNamespaceSpecifier zero = true
declares_at b ExportNamedDeclaration zero = b
declares_at b ExportDefaultDeclaration zero = b
declares_at b ExportSpecifier zero = b
declares_at b VariableDeclarator zero = b
declares_at b ParenthesizedExpression zero = b
declares_at b ObjectPattern zero = b
declares_at b PatternProperty (suc zero) = b
declares_at b ArrayPattern n = b
declares_at b AssignmentPattern zero = b
declares_at b RestElement zero = b
declares_at b ObjectTarget zero = b
declares_at b TargetProperty (suc zero) = b
declares_at b ArrayTarget n = b
declares_at b TargetWithDefault zero = b
declares_at b TargetRest zero = b
declares_at b k n = false

-- a class declares its name for itself, too
abbrev pub is_name_of : Text → Option Tree → Bool
is_name_of x (Some t) = bytes_eq (own_text t) x
is_name_of x None = false

-- whether a node declares this name itself
abbrev pub own_declares : Text → Bool → AstType → Label → Fields → Bool
own_declares x b Identifier l fs = b && bytes_eq (first_text l.texts) x
own_declares x b ClassDeclaration l fs = is_name_of x (child_at 0 fs)
own_declares x b ClassExpression l fs = is_name_of x (child_at 0 fs)
own_declares x b _ l fs = false

-- whether a tree does anywhere
abbrev mutual
  pub declares : Text → Bool → Tree → Bool
  declares x b (node k l fs) = own_declares x b k l fs || declares_in x (declares_at b k) fs

  pub declares_in : Text → (ℕ → Bool) → Fields → Bool
  declares_in x bs done = false
  declares_in x bs (f then fs) = declares_by x (bs zero) f || declares_in x (λ i. bs (suc i)) fs

  pub declares_by : Text → Bool → Field → Bool
  declares_by x b missing = false
  declares_by x b (one t) = declares x b t
  declares_by x b (many ts) = declares_among x b ts
  declares_by x b (statements ts) = declares_among x b ts

  pub declares_among : Text → Bool → Trees → Bool
  declares_among x b empty = false
  declares_among x b (t before ts) = declares x b t || declares_among x b ts

-- A program declares a name where one of its symbols has it.
abbrev pub LawBound : Type 0
LawBound = (x : Text) (p : Tree) → binds_name x (symbols_of p) ≡ declares x false p
