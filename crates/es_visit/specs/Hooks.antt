-- The hooks of a visit, and which of them a node gets.
use Rattle.std.specs.Prelude.{◌≡◌, ◌⊎◌, ℕ, Option, Some, None}
use Rattle.es_tree.specs.declared.ast_type.AstType.{AstType}
use Rattle.es_visit.specs.declared.hook.Hook.{Hook}
use Rattle.es_visit.specs.declared.hook.Hook.TheVariants.{
  Expression,
  Statement,
  Function,
  FunctionBody,
  ArrowFunctionExpression as h-ArrowFunctionExpression,
  StaticBlock as h-StaticBlock,
  VariableDeclaration as h-VariableDeclaration,
  CatchClause as h-CatchClause,
  TryStatement as h-TryStatement,
  ForInStatement as h-ForInStatement,
  ForOfStatement as h-ForOfStatement,
  BigIntLiteral as h-BigIntLiteral,
  ImportSpecifier as h-ImportSpecifier,
  ExportSpecifier as h-ExportSpecifier,
  ExportAllDeclaration as h-ExportAllDeclaration,
  ArrowFunctionBody,
  FormalParameters,
  Statements,
  Program,
}
use Rattle.es_visit.specs.declared.hook.Sort.{Sort}
use Rattle.es_visit.specs.declared.hook.Sort.TheVariants.{AlwaysExpression, MaybeExpression, AlwaysStatement, MaybeStatement, Neither}
use Rattle.es_tree.specs.declared.ast_type.AstType.TheVariants.{
  ExpressionStatement,
  BlockStatement,
  StaticBlock,
  EmptyStatement,
  DebuggerStatement,
  VariableDeclaration,
  FunctionDeclaration,
  FunctionExpression,
  FunctionBody as k-FunctionBody,
  ArrowFunctionExpression,
  ClassDeclaration,
  ClassExpression,
  ReturnStatement,
  ThrowStatement,
  IfStatement,
  ForStatement,
  ForInStatement,
  ForOfStatement,
  WhileStatement,
  DoWhileStatement,
  BreakStatement,
  ContinueStatement,
  LabeledStatement,
  SwitchStatement,
  TryStatement,
  CatchClause,
  ImportDeclaration,
  ImportSpecifier,
  ExportNamedDeclaration,
  ExportSpecifier,
  ExportDefaultDeclaration,
  ExportAllDeclaration,
  Identifier,
  ThisExpression,
  Super,
  NullLiteral,
  BooleanLiteral,
  NumericLiteral,
  BigIntLiteral,
  StringLiteral,
  RegExpLiteral,
  TemplateLiteral,
  TaggedTemplateExpression,
  ArrayExpression,
  ObjectExpression,
  UnaryExpression,
  UpdateExpression,
  BinaryExpression,
  LogicalExpression,
  ConditionalExpression,
  AssignmentExpression,
  SequenceExpression,
  MemberExpression,
  CallExpression,
  NewExpression,
  ChainExpression,
  ParenthesizedExpression,
  MetaProperty,
}

-- the hooks in their order
abbrev pub hook_number : Hook → ℕ
hook_number Program = 0
hook_number Statements = 1
hook_number Statement = 2
hook_number Expression = 3
hook_number Function = 4
hook_number FunctionBody = 5
hook_number FormalParameters = 6
hook_number h-ArrowFunctionExpression = 7
hook_number ArrowFunctionBody = 8
hook_number h-StaticBlock = 9
hook_number h-VariableDeclaration = 10
hook_number h-CatchClause = 11
hook_number h-TryStatement = 12
hook_number h-ForInStatement = 13
hook_number h-ForOfStatement = 14
hook_number h-BigIntLiteral = 15
hook_number h-ImportSpecifier = 16
hook_number h-ExportSpecifier = 17
hook_number h-ExportAllDeclaration = 18

-- Whether the nodes of a kind are expressions or statements, wherever the table of fields lets them stand, or at some
-- places alone: a name that is bound or a label is no expression, and the block of a `try` is no statement.
abbrev pub sort_of : AstType → Sort
sort_of ThisExpression = AlwaysExpression
sort_of Super = AlwaysExpression
sort_of NullLiteral = AlwaysExpression
sort_of BooleanLiteral = AlwaysExpression
sort_of RegExpLiteral = AlwaysExpression
sort_of TaggedTemplateExpression = AlwaysExpression
sort_of ArrayExpression = AlwaysExpression
sort_of ObjectExpression = AlwaysExpression
sort_of UnaryExpression = AlwaysExpression
sort_of UpdateExpression = AlwaysExpression
sort_of BinaryExpression = AlwaysExpression
sort_of LogicalExpression = AlwaysExpression
sort_of ConditionalExpression = AlwaysExpression
sort_of AssignmentExpression = AlwaysExpression
sort_of SequenceExpression = AlwaysExpression
sort_of NewExpression = AlwaysExpression
sort_of ChainExpression = AlwaysExpression
sort_of ParenthesizedExpression = AlwaysExpression
sort_of MetaProperty = AlwaysExpression
sort_of ClassExpression = AlwaysExpression
sort_of ArrowFunctionExpression = AlwaysExpression
sort_of Identifier = MaybeExpression
sort_of NumericLiteral = MaybeExpression
sort_of BigIntLiteral = MaybeExpression
sort_of StringLiteral = MaybeExpression
sort_of TemplateLiteral = MaybeExpression
sort_of MemberExpression = MaybeExpression
sort_of CallExpression = MaybeExpression
sort_of FunctionExpression = MaybeExpression
sort_of ExpressionStatement = AlwaysStatement
sort_of EmptyStatement = AlwaysStatement
sort_of DebuggerStatement = AlwaysStatement
sort_of ReturnStatement = AlwaysStatement
sort_of ThrowStatement = AlwaysStatement
sort_of IfStatement = AlwaysStatement
sort_of ForStatement = AlwaysStatement
sort_of ForInStatement = AlwaysStatement
sort_of ForOfStatement = AlwaysStatement
sort_of WhileStatement = AlwaysStatement
sort_of DoWhileStatement = AlwaysStatement
sort_of BreakStatement = AlwaysStatement
sort_of ContinueStatement = AlwaysStatement
sort_of LabeledStatement = AlwaysStatement
sort_of SwitchStatement = AlwaysStatement
sort_of TryStatement = AlwaysStatement
sort_of ImportDeclaration = AlwaysStatement
sort_of ExportNamedDeclaration = AlwaysStatement
sort_of ExportDefaultDeclaration = AlwaysStatement
sort_of ExportAllDeclaration = AlwaysStatement
sort_of BlockStatement = MaybeStatement
sort_of VariableDeclaration = MaybeStatement
sort_of FunctionDeclaration = MaybeStatement
sort_of ClassDeclaration = MaybeStatement
sort_of _ = Neither

-- the hook that a node of this sort gets wherever it stands
abbrev pub hook_of_sort : Sort → Option Hook
hook_of_sort AlwaysExpression = Some Expression
hook_of_sort AlwaysStatement = Some Statement
hook_of_sort _ = None

-- the hook that a node gets by its own kind, after that of its sort
abbrev pub hook_of_kind : AstType → Option Hook
hook_of_kind FunctionDeclaration = Some Function
hook_of_kind FunctionExpression = Some Function
hook_of_kind k-FunctionBody = Some FunctionBody
hook_of_kind ArrowFunctionExpression = Some h-ArrowFunctionExpression
hook_of_kind StaticBlock = Some h-StaticBlock
hook_of_kind VariableDeclaration = Some h-VariableDeclaration
hook_of_kind CatchClause = Some h-CatchClause
hook_of_kind TryStatement = Some h-TryStatement
hook_of_kind ForInStatement = Some h-ForInStatement
hook_of_kind ForOfStatement = Some h-ForOfStatement
hook_of_kind BigIntLiteral = Some h-BigIntLiteral
hook_of_kind ImportSpecifier = Some h-ImportSpecifier
hook_of_kind ExportSpecifier = Some h-ExportSpecifier
hook_of_kind ExportAllDeclaration = Some h-ExportAllDeclaration
hook_of_kind _ = None

-- a node of this kind gets the hook wherever it stands
abbrev pub IsHooked : Hook → AstType → Type 0
IsHooked h k = (hook_of_sort (sort_of k) ≡ Some h) ⊎ (hook_of_kind k ≡ Some h)
