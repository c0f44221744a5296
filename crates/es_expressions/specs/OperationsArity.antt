-- The arity of each kind of node.
use Rattle.std.specs.Prelude.{[], ◌∷◌}
use Rattle.es_tree.specs.Tree.{Tree}
use Rattle.es_tree.specs.declared.ast_type.AstType.TheVariants.{
  UnaryExpression,
  UpdateExpression,
  BinaryExpression,
  LogicalExpression,
  ConditionalExpression,
  AssignmentExpression,
  SequenceExpression,
  ParenthesizedExpression,
}
use Rattle.es_tree.specs.Arity.{Opens, required, list}

abbrev pub IsUnaryExpression : Tree → Type 0
IsUnaryExpression = Opens UnaryExpression (required ∷ [])

abbrev pub IsUpdateExpression : Tree → Type 0
IsUpdateExpression = Opens UpdateExpression (required ∷ [])

abbrev pub IsBinaryExpression : Tree → Type 0
IsBinaryExpression = Opens BinaryExpression (required ∷ required ∷ [])

abbrev pub IsLogicalExpression : Tree → Type 0
IsLogicalExpression = Opens LogicalExpression (required ∷ required ∷ [])

abbrev pub IsConditionalExpression : Tree → Type 0
IsConditionalExpression = Opens ConditionalExpression (required ∷ required ∷ required ∷ [])

abbrev pub IsAssignmentExpression : Tree → Type 0
IsAssignmentExpression = Opens AssignmentExpression (required ∷ required ∷ [])

abbrev pub IsSequenceExpression : Tree → Type 0
IsSequenceExpression = Opens SequenceExpression (list ∷ [])

abbrev pub IsParenthesizedExpression : Tree → Type 0
IsParenthesizedExpression = Opens ParenthesizedExpression (required ∷ [])
