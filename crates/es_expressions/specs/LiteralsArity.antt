-- The arity of each kind of node.
use Rattle.std.specs.Prelude.{[]}
use Rattle.es_tree.specs.Tree.{Tree}
use Rattle.es_tree.specs.declared.ast_type.AstType.TheVariants.{
  Identifier,
  PrivateIdentifier,
  ThisExpression,
  Super,
  NullLiteral,
  BooleanLiteral,
  NumericLiteral,
  BigIntLiteral,
  StringLiteral,
  RegExpLiteral,
}
use Rattle.es_tree.specs.Arity.{Opens}

abbrev pub IsIdentifier : Tree → Type 0
IsIdentifier = Opens Identifier ([])

abbrev pub IsPrivateIdentifier : Tree → Type 0
IsPrivateIdentifier = Opens PrivateIdentifier ([])

abbrev pub IsThisExpression : Tree → Type 0
IsThisExpression = Opens ThisExpression ([])

abbrev pub IsSuper : Tree → Type 0
IsSuper = Opens Super ([])

abbrev pub IsNullLiteral : Tree → Type 0
IsNullLiteral = Opens NullLiteral ([])

abbrev pub IsBooleanLiteral : Tree → Type 0
IsBooleanLiteral = Opens BooleanLiteral ([])

abbrev pub IsNumericLiteral : Tree → Type 0
IsNumericLiteral = Opens NumericLiteral ([])

abbrev pub IsBigIntLiteral : Tree → Type 0
IsBigIntLiteral = Opens BigIntLiteral ([])

abbrev pub IsStringLiteral : Tree → Type 0
IsStringLiteral = Opens StringLiteral ([])

abbrev pub IsRegExpLiteral : Tree → Type 0
IsRegExpLiteral = Opens RegExpLiteral ([])
