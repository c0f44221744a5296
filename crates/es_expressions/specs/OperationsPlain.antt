-- What each kind of node is seen as.
use Rattle.es_tree.specs.Tree.{Tree, done, ◌then◌, one, many, trees}
use Rattle.es_tree.specs.Views.{plain}
use Rattle.es_tree.specs.declared.kind.Kind.TheVariants.{
  UnaryExpression as k-UnaryExpression,
  UpdateExpression as k-UpdateExpression,
  BinaryExpression as k-BinaryExpression,
  LogicalExpression as k-LogicalExpression,
  ConditionalExpression as k-ConditionalExpression,
  AssignmentExpression as k-AssignmentExpression,
  SequenceExpression as k-SequenceExpression,
  ParenthesizedExpression as k-ParenthesizedExpression,
}
use Rattle.es_expressions.specs.declared.operations.UnaryExpression.{UnaryExpression}
use Rattle.es_expressions.specs.declared.operations.UpdateExpression.{UpdateExpression}
use Rattle.es_expressions.specs.declared.operations.BinaryExpression.{BinaryExpression}
use Rattle.es_expressions.specs.declared.operations.LogicalExpression.{LogicalExpression}
use Rattle.es_expressions.specs.declared.operations.ConditionalExpression.{ConditionalExpression}
use Rattle.es_expressions.specs.declared.operations.AssignmentExpression.{AssignmentExpression}
use Rattle.es_expressions.specs.declared.operations.SequenceExpression.{SequenceExpression}
use Rattle.es_expressions.specs.declared.operations.ParenthesizedExpression.{ParenthesizedExpression}

abbrev pub plain_unary_expression : UnaryExpression → Tree
plain_unary_expression e = plain e.id e.span (k-UnaryExpression e.operator) (one e.argument then done)

abbrev pub plain_update_expression : UpdateExpression → Tree
plain_update_expression e = plain e.id e.span (k-UpdateExpression e.operator e.prefix) (one e.argument then done)

abbrev pub plain_binary_expression : BinaryExpression → Tree
plain_binary_expression e = plain e.id e.span (k-BinaryExpression e.operator) (one e.left then one e.right then done)

abbrev pub plain_logical_expression : LogicalExpression → Tree
plain_logical_expression e = plain e.id e.span (k-LogicalExpression e.operator) (one e.left then one e.right then done)

abbrev pub plain_conditional_expression : ConditionalExpression → Tree
plain_conditional_expression e = plain e.id e.span (k-ConditionalExpression) (one e.test then one e.consequent then one e.alternate then done)

abbrev pub plain_assignment_expression : AssignmentExpression → Tree
plain_assignment_expression e = plain e.id e.span (k-AssignmentExpression e.operator) (one e.left then one e.right then done)

abbrev pub plain_sequence_expression : SequenceExpression → Tree
plain_sequence_expression e = plain e.id e.span (k-SequenceExpression) (many (trees e.expressions.items) then done)

abbrev pub plain_parenthesized_expression : ParenthesizedExpression → Tree
plain_parenthesized_expression e = plain e.id e.span (k-ParenthesizedExpression) (one e.expression then done)
