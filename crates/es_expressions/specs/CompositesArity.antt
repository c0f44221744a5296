-- The arity of each kind of node.
use Rattle.std.specs.Prelude.{[], ◌∷◌, ◌≡◌}
use Rattle.es_tree.specs.Tree.{Tree, kind_of}
use Rattle.es_tree.specs.declared.ast_type.AstType.TheVariants.{
  ArrayExpression,
  SpreadElement,
  ObjectExpression,
  ObjectProperty,
  FunctionExpression,
  ArrowFunctionExpression,
  ClassExpression,
}
use Rattle.es_tree.specs.Arity.{Opens, required, optional, list}

abbrev pub IsArrayExpression : Tree → Type 0
IsArrayExpression t = kind_of t ≡ ArrayExpression

abbrev pub IsSpreadElement : Tree → Type 0
IsSpreadElement = Opens SpreadElement (required ∷ [])

abbrev pub IsObjectExpression : Tree → Type 0
IsObjectExpression = Opens ObjectExpression (list ∷ [])

abbrev pub IsObjectProperty : Tree → Type 0
IsObjectProperty = Opens ObjectProperty (required ∷ required ∷ [])

abbrev pub IsFunctionExpression : Tree → Type 0
IsFunctionExpression = Opens FunctionExpression (optional ∷ list ∷ required ∷ [])

abbrev pub IsArrowFunctionExpression : Tree → Type 0
IsArrowFunctionExpression = Opens ArrowFunctionExpression (list ∷ required ∷ [])

abbrev pub IsClassExpression : Tree → Type 0
IsClassExpression = Opens ClassExpression (optional ∷ optional ∷ list ∷ [])
