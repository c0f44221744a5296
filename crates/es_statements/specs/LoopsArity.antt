-- The arity of each kind of node.
use Rattle.std.specs.Prelude.{[], ◌∷◌}
use Rattle.es_tree.specs.Tree.{Tree}
use Rattle.es_tree.specs.declared.ast_type.AstType.TheVariants.{
  ForStatement,
  ForInStatement,
  ForOfStatement,
  WhileStatement,
  DoWhileStatement,
  BreakStatement,
  ContinueStatement,
}
use Rattle.es_tree.specs.Arity.{Opens, required, optional}

abbrev pub IsForStatement : Tree → Type 0
IsForStatement = Opens ForStatement (optional ∷ optional ∷ optional ∷ required ∷ [])

abbrev pub IsForInStatement : Tree → Type 0
IsForInStatement = Opens ForInStatement (required ∷ required ∷ required ∷ [])

abbrev pub IsForOfStatement : Tree → Type 0
IsForOfStatement = Opens ForOfStatement (required ∷ required ∷ required ∷ [])

abbrev pub IsWhileStatement : Tree → Type 0
IsWhileStatement = Opens WhileStatement (required ∷ required ∷ [])

abbrev pub IsDoWhileStatement : Tree → Type 0
IsDoWhileStatement = Opens DoWhileStatement (required ∷ required ∷ [])

abbrev pub IsBreakStatement : Tree → Type 0
IsBreakStatement = Opens BreakStatement (optional ∷ [])

abbrev pub IsContinueStatement : Tree → Type 0
IsContinueStatement = Opens ContinueStatement (optional ∷ [])
