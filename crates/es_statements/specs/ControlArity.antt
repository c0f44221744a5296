-- The arity of each kind of node.
use Rattle.std.specs.Prelude.{[], ◌∷◌}
use Rattle.es_tree.specs.Tree.{Tree}
use Rattle.es_tree.specs.declared.ast_type.AstType.TheVariants.{
  IfStatement,
  SwitchStatement,
  SwitchCase,
  TryStatement,
  CatchClause,
  ReturnStatement,
  ThrowStatement,
  LabeledStatement,
}
use Rattle.es_tree.specs.Arity.{Opens, required, optional, list, statement_list}

abbrev pub IsIfStatement : Tree → Type 0
IsIfStatement = Opens IfStatement (required ∷ required ∷ optional ∷ [])

abbrev pub IsSwitchStatement : Tree → Type 0
IsSwitchStatement = Opens SwitchStatement (required ∷ list ∷ [])

abbrev pub IsSwitchCase : Tree → Type 0
IsSwitchCase = Opens SwitchCase (optional ∷ statement_list ∷ [])

abbrev pub IsTryStatement : Tree → Type 0
IsTryStatement = Opens TryStatement (required ∷ optional ∷ optional ∷ [])

abbrev pub IsCatchClause : Tree → Type 0
IsCatchClause = Opens CatchClause (optional ∷ required ∷ [])

abbrev pub IsReturnStatement : Tree → Type 0
IsReturnStatement = Opens ReturnStatement (optional ∷ [])

abbrev pub IsThrowStatement : Tree → Type 0
IsThrowStatement = Opens ThrowStatement (required ∷ [])

abbrev pub IsLabeledStatement : Tree → Type 0
IsLabeledStatement = Opens LabeledStatement (required ∷ required ∷ [])
