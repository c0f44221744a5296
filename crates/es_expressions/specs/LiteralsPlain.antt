-- What each kind of node is seen as.
use Rattle.es_tree.specs.Tree.{Tree, done}
use Rattle.es_tree.specs.Views.{plain}
use Rattle.es_tree.specs.declared.kind.Kind.TheVariants.{
  Identifier as k-Identifier,
  PrivateIdentifier as k-PrivateIdentifier,
  ThisExpression as k-ThisExpression,
  Super as k-Super,
  NullLiteral as k-NullLiteral,
  BooleanLiteral as k-BooleanLiteral,
  NumericLiteral as k-NumericLiteral,
  BigIntLiteral as k-BigIntLiteral,
  StringLiteral as k-StringLiteral,
  RegExpLiteral as k-RegExpLiteral,
}
use Rattle.es_expressions.specs.declared.literals.Identifier.{Identifier}
use Rattle.es_expressions.specs.declared.literals.PrivateIdentifier.{PrivateIdentifier}
use Rattle.es_expressions.specs.declared.literals.ThisExpression.{ThisExpression}
use Rattle.es_expressions.specs.declared.literals.Super.{Super}
use Rattle.es_expressions.specs.declared.literals.NullLiteral.{NullLiteral}
use Rattle.es_expressions.specs.declared.literals.BooleanLiteral.{BooleanLiteral}
use Rattle.es_expressions.specs.declared.literals.NumericLiteral.{NumericLiteral}
use Rattle.es_expressions.specs.declared.literals.BigIntLiteral.{BigIntLiteral}
use Rattle.es_expressions.specs.declared.literals.StringLiteral.{StringLiteral}
use Rattle.es_expressions.specs.declared.literals.RegExpLiteral.{RegExpLiteral}

abbrev pub plain_identifier : Identifier → Tree
plain_identifier e = plain e.id e.span (k-Identifier e.name e.reference e.symbol) (done)

abbrev pub plain_private_identifier : PrivateIdentifier → Tree
plain_private_identifier e = plain e.id e.span (k-PrivateIdentifier e.name) (done)

abbrev pub plain_this_expression : ThisExpression → Tree
plain_this_expression e = plain e.id e.span (k-ThisExpression) (done)

abbrev pub plain_super : Super → Tree
plain_super e = plain e.id e.span (k-Super) (done)

abbrev pub plain_null_literal : NullLiteral → Tree
plain_null_literal e = plain e.id e.span (k-NullLiteral) (done)

abbrev pub plain_boolean_literal : BooleanLiteral → Tree
plain_boolean_literal e = plain e.id e.span (k-BooleanLiteral e.value) (done)

abbrev pub plain_numeric_literal : NumericLiteral → Tree
plain_numeric_literal e = plain e.id e.span (k-NumericLiteral e.raw e.key) (done)

abbrev pub plain_big_int_literal : BigIntLiteral → Tree
plain_big_int_literal e = plain e.id e.span (k-BigIntLiteral e.raw e.key) (done)

abbrev pub plain_string_literal : StringLiteral → Tree
plain_string_literal e = plain e.id e.span (k-StringLiteral e.value) (done)

abbrev pub plain_reg_exp_literal : RegExpLiteral → Tree
plain_reg_exp_literal e = plain e.id e.span (k-RegExpLiteral e.pattern e.flags) (done)
