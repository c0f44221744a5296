-- What each kind of node is seen as.
use Rattle.es_tree.specs.Tree.{Tree, done, ◌then◌, one, many, statements, trees}
use Rattle.es_tree.specs.Arity.{maybe}
use Rattle.es_tree.specs.Views.{plain}
use Rattle.es_tree.specs.declared.kind.Kind.TheVariants.{
  Program as k-Program,
  Directive as k-Directive,
  ExpressionStatement as k-ExpressionStatement,
  BlockStatement as k-BlockStatement,
  EmptyStatement as k-EmptyStatement,
  DebuggerStatement as k-DebuggerStatement,
  VariableDeclaration as k-VariableDeclaration,
  VariableDeclarator as k-VariableDeclarator,
}
use Rattle.es_statements.specs.declared.program.Program.{Program}
use Rattle.es_statements.specs.declared.program.Directive.{Directive}
use Rattle.es_statements.specs.declared.program.ExpressionStatement.{ExpressionStatement}
use Rattle.es_statements.specs.declared.program.BlockStatement.{BlockStatement}
use Rattle.es_statements.specs.declared.program.EmptyStatement.{EmptyStatement}
use Rattle.es_statements.specs.declared.program.DebuggerStatement.{DebuggerStatement}
use Rattle.es_statements.specs.declared.program.VariableDeclaration.{VariableDeclaration}
use Rattle.es_statements.specs.declared.program.VariableDeclarator.{VariableDeclarator}

abbrev pub plain_program : Program → Tree
plain_program e = plain e.id e.span (k-Program e.source_type e.scope) (many (trees e.directives.items) then statements (trees e.body.items) then done)

abbrev pub plain_directive : Directive → Tree
plain_directive e = plain e.id e.span (k-Directive e.value) (done)

abbrev pub plain_expression_statement : ExpressionStatement → Tree
plain_expression_statement e = plain e.id e.span (k-ExpressionStatement) (one e.expression then done)

abbrev pub plain_block_statement : BlockStatement → Tree
plain_block_statement e = plain e.id e.span (k-BlockStatement e.scope) (statements (trees e.body.items) then done)

abbrev pub plain_empty_statement : EmptyStatement → Tree
plain_empty_statement e = plain e.id e.span (k-EmptyStatement) (done)

abbrev pub plain_debugger_statement : DebuggerStatement → Tree
plain_debugger_statement e = plain e.id e.span (k-DebuggerStatement) (done)

abbrev pub plain_variable_declaration : VariableDeclaration → Tree
plain_variable_declaration e = plain e.id e.span (k-VariableDeclaration e.kind) (many (trees e.declarations.items) then done)

abbrev pub plain_variable_declarator : VariableDeclarator → Tree
plain_variable_declarator e = plain e.id e.span (k-VariableDeclarator) (one e.binding then maybe e.init then done)
