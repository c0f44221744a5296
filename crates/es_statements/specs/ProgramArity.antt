-- The arity of each kind of node.
use Rattle.std.specs.Prelude.{[], ◌∷◌}
use Rattle.es_tree.specs.Tree.{Tree}
use Rattle.es_tree.specs.declared.ast_type.AstType.TheVariants.{
  Program,
  Directive,
  ExpressionStatement,
  BlockStatement,
  EmptyStatement,
  DebuggerStatement,
  VariableDeclaration,
  VariableDeclarator,
}
use Rattle.es_tree.specs.Arity.{Opens, required, optional, list, statement_list}

abbrev pub IsProgram : Tree → Type 0
IsProgram = Opens Program (list ∷ statement_list ∷ [])

abbrev pub IsDirective : Tree → Type 0
IsDirective = Opens Directive ([])

abbrev pub IsExpressionStatement : Tree → Type 0
IsExpressionStatement = Opens ExpressionStatement (required ∷ [])

abbrev pub IsBlockStatement : Tree → Type 0
IsBlockStatement = Opens BlockStatement (statement_list ∷ [])

abbrev pub IsEmptyStatement : Tree → Type 0
IsEmptyStatement = Opens EmptyStatement ([])

abbrev pub IsDebuggerStatement : Tree → Type 0
IsDebuggerStatement = Opens DebuggerStatement ([])

abbrev pub IsVariableDeclaration : Tree → Type 0
IsVariableDeclaration = Opens VariableDeclaration (list ∷ [])

abbrev pub IsVariableDeclarator : Tree → Type 0
IsVariableDeclarator = Opens VariableDeclarator (required ∷ optional ∷ [])
