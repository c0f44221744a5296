-- What each kind of node is seen as.
use Rattle.es_tree.specs.Tree.{Tree, done, ◌then◌, one, many, statements, trees}
use Rattle.es_tree.specs.Arity.{maybe}
use Rattle.es_tree.specs.Views.{plain}
use Rattle.es_tree.specs.declared.kind.Kind.TheVariants.{
  IfStatement as k-IfStatement,
  SwitchStatement as k-SwitchStatement,
  SwitchCase as k-SwitchCase,
  TryStatement as k-TryStatement,
  CatchClause as k-CatchClause,
  ReturnStatement as k-ReturnStatement,
  ThrowStatement as k-ThrowStatement,
  LabeledStatement as k-LabeledStatement,
}
use Rattle.es_statements.specs.declared.control.IfStatement.{IfStatement}
use Rattle.es_statements.specs.declared.control.SwitchStatement.{SwitchStatement}
use Rattle.es_statements.specs.declared.control.SwitchCase.{SwitchCase}
use Rattle.es_statements.specs.declared.control.TryStatement.{TryStatement}
use Rattle.es_statements.specs.declared.control.CatchClause.{CatchClause}
use Rattle.es_statements.specs.declared.control.ReturnStatement.{ReturnStatement}
use Rattle.es_statements.specs.declared.control.ThrowStatement.{ThrowStatement}
use Rattle.es_statements.specs.declared.control.LabeledStatement.{LabeledStatement}

abbrev pub plain_if_statement : IfStatement → Tree
plain_if_statement e = plain e.id e.span (k-IfStatement) (one e.test then one e.consequent then maybe e.alternate then done)

abbrev pub plain_switch_statement : SwitchStatement → Tree
plain_switch_statement e = plain e.id e.span (k-SwitchStatement e.scope) (one e.discriminant then many (trees e.cases.items) then done)

abbrev pub plain_switch_case : SwitchCase → Tree
plain_switch_case e = plain e.id e.span (k-SwitchCase) (maybe e.test then statements (trees e.consequent.items) then done)

abbrev pub plain_try_statement : TryStatement → Tree
plain_try_statement e = plain e.id e.span (k-TryStatement) (one e.block then maybe e.handler then maybe e.finalizer then done)

abbrev pub plain_catch_clause : CatchClause → Tree
plain_catch_clause e = plain e.id e.span (k-CatchClause e.scope) (maybe e.param then one e.body then done)

abbrev pub plain_return_statement : ReturnStatement → Tree
plain_return_statement e = plain e.id e.span (k-ReturnStatement) (maybe e.argument then done)

abbrev pub plain_throw_statement : ThrowStatement → Tree
plain_throw_statement e = plain e.id e.span (k-ThrowStatement) (one e.argument then done)

abbrev pub plain_labeled_statement : LabeledStatement → Tree
plain_labeled_statement e = plain e.id e.span (k-LabeledStatement) (one e.label then one e.body then done)
