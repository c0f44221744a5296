-- What each kind of node is seen as.
use Rattle.es_tree.specs.Tree.{Tree, done, ◌then◌, one}
use Rattle.es_tree.specs.Arity.{maybe}
use Rattle.es_tree.specs.Views.{plain}
use Rattle.es_tree.specs.declared.kind.Kind.TheVariants.{
  ForStatement as k-ForStatement,
  ForInStatement as k-ForInStatement,
  ForOfStatement as k-ForOfStatement,
  WhileStatement as k-WhileStatement,
  DoWhileStatement as k-DoWhileStatement,
  BreakStatement as k-BreakStatement,
  ContinueStatement as k-ContinueStatement,
}
use Rattle.es_statements.specs.declared.loops.ForStatement.{ForStatement}
use Rattle.es_statements.specs.declared.loops.ForInStatement.{ForInStatement}
use Rattle.es_statements.specs.declared.loops.ForOfStatement.{ForOfStatement}
use Rattle.es_statements.specs.declared.loops.WhileStatement.{WhileStatement}
use Rattle.es_statements.specs.declared.loops.DoWhileStatement.{DoWhileStatement}
use Rattle.es_statements.specs.declared.loops.BreakStatement.{BreakStatement}
use Rattle.es_statements.specs.declared.loops.ContinueStatement.{ContinueStatement}

abbrev pub plain_for_statement : ForStatement → Tree
plain_for_statement e = plain e.id e.span (k-ForStatement e.scope) (maybe e.init then maybe e.test then maybe e.update then one e.body then done)

abbrev pub plain_for_in_statement : ForInStatement → Tree
plain_for_in_statement e = plain e.id e.span (k-ForInStatement e.scope) (one e.left then one e.right then one e.body then done)

abbrev pub plain_for_of_statement : ForOfStatement → Tree
plain_for_of_statement e = plain e.id e.span (k-ForOfStatement e.scope) (one e.left then one e.right then one e.body then done)

abbrev pub plain_while_statement : WhileStatement → Tree
plain_while_statement e = plain e.id e.span (k-WhileStatement) (one e.test then one e.body then done)

abbrev pub plain_do_while_statement : DoWhileStatement → Tree
plain_do_while_statement e = plain e.id e.span (k-DoWhileStatement) (one e.body then one e.test then done)

abbrev pub plain_break_statement : BreakStatement → Tree
plain_break_statement e = plain e.id e.span (k-BreakStatement) (maybe e.label then done)

abbrev pub plain_continue_statement : ContinueStatement → Tree
plain_continue_statement e = plain e.id e.span (k-ContinueStatement) (maybe e.label then done)
