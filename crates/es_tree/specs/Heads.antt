-- The kind and the label of a node.
use Rattle.std.specs.Prelude.{ℕ, List, [], ◌∷◌, Option, Some, None, Bool, string_bytes}
use Rattle.std.specs.declared.string.String.{String}
use Rattle.std.specs.declared.alloc.Global.{Global}
use Rattle.es_tree.specs.Tree.{Label}
use Rattle.es_tree.specs.Words.{Text, source_type_text, variable_declaration_kind_text, method_definition_kind_text, property_kind_text, unary_operator_text, update_operator_text, binary_operator_text, logical_operator_text, assignment_operator_text}
use Rattle.es_tree.specs.declared.ast_type.AstType.{AstType}
use Rattle.es_tree.specs.declared.ast_type.AstType.TheVariants.{
  Program,
  Directive,
  ExpressionStatement,
  BlockStatement,
  StaticBlock,
  EmptyStatement,
  DebuggerStatement,
  VariableDeclaration,
  VariableDeclarator,
  FunctionDeclaration,
  FunctionExpression,
  FunctionBody,
  ArrowFunctionExpression,
  ClassDeclaration,
  ClassExpression,
  MethodDefinition,
  PropertyDefinition,
  ReturnStatement,
  ThrowStatement,
  IfStatement,
  ForStatement,
  ForInStatement,
  ForOfStatement,
  WhileStatement,
  DoWhileStatement,
  BreakStatement,
  ContinueStatement,
  LabeledStatement,
  SwitchStatement,
  SwitchCase,
  TryStatement,
  CatchClause,
  ImportDeclaration,
  ImportSpecifier,
  ImportDefaultSpecifier,
  ImportNamespaceSpecifier,
  ImportAttribute,
  ExportNamedDeclaration,
  ExportSpecifier,
  ExportDefaultDeclaration,
  ExportAllDeclaration,
  Identifier,
  PrivateIdentifier,
  ThisExpression,
  Super,
  NullLiteral,
  BooleanLiteral,
  NumericLiteral,
  BigIntLiteral,
  StringLiteral,
  RegExpLiteral,
  TemplateLiteral,
  TemplateElement,
  TaggedTemplateExpression,
  ArrayExpression,
  SpreadElement,
  ObjectExpression,
  ObjectProperty,
  UnaryExpression,
  UpdateExpression,
  BinaryExpression,
  LogicalExpression,
  ConditionalExpression,
  AssignmentExpression,
  SequenceExpression,
  MemberExpression,
  CallExpression,
  NewExpression,
  ChainExpression,
  ParenthesizedExpression,
  MetaProperty,
  ObjectPattern,
  PatternProperty,
  ArrayPattern,
  AssignmentPattern,
  RestElement,
  ObjectTarget,
  TargetProperty,
  ArrayTarget,
  TargetWithDefault,
  TargetRest,
}
use Rattle.es_tree.specs.declared.ids.NodeId.{NodeId}
use Rattle.es_tree.specs.declared.ids.Span.{Span}
use Rattle.es_tree.specs.declared.ids.ScopeId.{ScopeId}
use Rattle.es_tree.specs.declared.ids.ReferenceId.{ReferenceId}
use Rattle.es_tree.specs.declared.ids.SymbolId.{SymbolId}
use Rattle.es_tree.specs.declared.kind.Kind.{Kind}
use Rattle.es_tree.specs.declared.kind.Kind.TheVariants.{
  Program as k-Program,
  Directive as k-Directive,
  ExpressionStatement as k-ExpressionStatement,
  BlockStatement as k-BlockStatement,
  StaticBlock as k-StaticBlock,
  EmptyStatement as k-EmptyStatement,
  DebuggerStatement as k-DebuggerStatement,
  VariableDeclaration as k-VariableDeclaration,
  VariableDeclarator as k-VariableDeclarator,
  FunctionDeclaration as k-FunctionDeclaration,
  FunctionExpression as k-FunctionExpression,
  FunctionBody as k-FunctionBody,
  ArrowFunctionExpression as k-ArrowFunctionExpression,
  ClassDeclaration as k-ClassDeclaration,
  ClassExpression as k-ClassExpression,
  MethodDefinition as k-MethodDefinition,
  PropertyDefinition as k-PropertyDefinition,
  ReturnStatement as k-ReturnStatement,
  ThrowStatement as k-ThrowStatement,
  IfStatement as k-IfStatement,
  ForStatement as k-ForStatement,
  ForInStatement as k-ForInStatement,
  ForOfStatement as k-ForOfStatement,
  WhileStatement as k-WhileStatement,
  DoWhileStatement as k-DoWhileStatement,
  BreakStatement as k-BreakStatement,
  ContinueStatement as k-ContinueStatement,
  LabeledStatement as k-LabeledStatement,
  SwitchStatement as k-SwitchStatement,
  SwitchCase as k-SwitchCase,
  TryStatement as k-TryStatement,
  CatchClause as k-CatchClause,
  ImportDeclaration as k-ImportDeclaration,
  ImportSpecifier as k-ImportSpecifier,
  ImportDefaultSpecifier as k-ImportDefaultSpecifier,
  ImportNamespaceSpecifier as k-ImportNamespaceSpecifier,
  ImportAttribute as k-ImportAttribute,
  ExportNamedDeclaration as k-ExportNamedDeclaration,
  ExportSpecifier as k-ExportSpecifier,
  ExportDefaultDeclaration as k-ExportDefaultDeclaration,
  ExportAllDeclaration as k-ExportAllDeclaration,
  Identifier as k-Identifier,
  PrivateIdentifier as k-PrivateIdentifier,
  ThisExpression as k-ThisExpression,
  Super as k-Super,
  NullLiteral as k-NullLiteral,
  BooleanLiteral as k-BooleanLiteral,
  NumericLiteral as k-NumericLiteral,
  BigIntLiteral as k-BigIntLiteral,
  StringLiteral as k-StringLiteral,
  RegExpLiteral as k-RegExpLiteral,
  TemplateLiteral as k-TemplateLiteral,
  TemplateElement as k-TemplateElement,
  TaggedTemplateExpression as k-TaggedTemplateExpression,
  ArrayExpression as k-ArrayExpression,
  SpreadElement as k-SpreadElement,
  ObjectExpression as k-ObjectExpression,
  ObjectProperty as k-ObjectProperty,
  UnaryExpression as k-UnaryExpression,
  UpdateExpression as k-UpdateExpression,
  BinaryExpression as k-BinaryExpression,
  LogicalExpression as k-LogicalExpression,
  ConditionalExpression as k-ConditionalExpression,
  AssignmentExpression as k-AssignmentExpression,
  SequenceExpression as k-SequenceExpression,
  MemberExpression as k-MemberExpression,
  CallExpression as k-CallExpression,
  NewExpression as k-NewExpression,
  ChainExpression as k-ChainExpression,
  ParenthesizedExpression as k-ParenthesizedExpression,
  MetaProperty as k-MetaProperty,
  ObjectPattern as k-ObjectPattern,
  PatternProperty as k-PatternProperty,
  ArrayPattern as k-ArrayPattern,
  AssignmentPattern as k-AssignmentPattern,
  RestElement as k-RestElement,
  ObjectTarget as k-ObjectTarget,
  TargetProperty as k-TargetProperty,
  ArrayTarget as k-ArrayTarget,
  TargetWithDefault as k-TargetWithDefault,
  TargetRest as k-TargetRest,
}

-- What a kind says: the kind by name alone, and its texts, truth values and marks in the order of the table.
pub record Head : Type 0 where
  pub kind : AstType
  pub texts : List (Option Text)
  pub flags : List Bool
  pub marks : List (Option ℕ)

abbrev pub head : AstType → List (Option Text) → List Bool → List (Option ℕ) → Head
head kind texts flags marks = record { kind = kind; texts = texts; flags = flags; marks = marks }

abbrev pub text : String Global → Option Text
text s = Some (string_bytes s)

abbrev pub optional_text : Option (String Global) → Option Text
optional_text None = None
optional_text (Some s) = Some (string_bytes s)

abbrev pub scope : Option ScopeId → Option ℕ
scope None = None
scope (Some x) = Some x.0

abbrev pub reference : Option ReferenceId → Option ℕ
reference None = None
reference (Some x) = Some x.0

abbrev pub symbol : Option SymbolId → Option ℕ
symbol None = None
symbol (Some x) = Some x.0

abbrev pub head_of : Kind → Head
head_of (k-Program x0 x1) = head Program (Some (source_type_text x0) ∷ []) [] (scope x1 ∷ [])
head_of (k-Directive x0) = head Directive (text x0 ∷ []) [] []
head_of k-ExpressionStatement = head ExpressionStatement [] [] []
head_of (k-BlockStatement x0) = head BlockStatement [] [] (scope x0 ∷ [])
head_of (k-StaticBlock x0) = head StaticBlock [] [] (scope x0 ∷ [])
head_of k-EmptyStatement = head EmptyStatement [] [] []
head_of k-DebuggerStatement = head DebuggerStatement [] [] []
head_of (k-VariableDeclaration x0) = head VariableDeclaration (Some (variable_declaration_kind_text x0) ∷ []) [] []
head_of k-VariableDeclarator = head VariableDeclarator [] [] []
head_of (k-FunctionDeclaration x0) = head FunctionDeclaration [] [] (scope x0 ∷ [])
head_of (k-FunctionExpression x0) = head FunctionExpression [] [] (scope x0 ∷ [])
head_of (k-FunctionBody x0) = head FunctionBody [] [] (scope x0 ∷ [])
head_of (k-ArrowFunctionExpression x0) = head ArrowFunctionExpression [] [] (scope x0 ∷ [])
head_of (k-ClassDeclaration x0) = head ClassDeclaration [] [] (scope x0 ∷ [])
head_of (k-ClassExpression x0) = head ClassExpression [] [] (scope x0 ∷ [])
head_of (k-MethodDefinition x0 x1 x2) = head MethodDefinition (Some (method_definition_kind_text x0) ∷ []) (x1 ∷ x2 ∷ []) []
head_of (k-PropertyDefinition x0 x1) = head PropertyDefinition [] (x0 ∷ x1 ∷ []) []
head_of k-ReturnStatement = head ReturnStatement [] [] []
head_of k-ThrowStatement = head ThrowStatement [] [] []
head_of k-IfStatement = head IfStatement [] [] []
head_of (k-ForStatement x0) = head ForStatement [] [] (scope x0 ∷ [])
head_of (k-ForInStatement x0) = head ForInStatement [] [] (scope x0 ∷ [])
head_of (k-ForOfStatement x0) = head ForOfStatement [] [] (scope x0 ∷ [])
head_of k-WhileStatement = head WhileStatement [] [] []
head_of k-DoWhileStatement = head DoWhileStatement [] [] []
head_of k-BreakStatement = head BreakStatement [] [] []
head_of k-ContinueStatement = head ContinueStatement [] [] []
head_of k-LabeledStatement = head LabeledStatement [] [] []
head_of (k-SwitchStatement x0) = head SwitchStatement [] [] (scope x0 ∷ [])
head_of k-SwitchCase = head SwitchCase [] [] []
head_of k-TryStatement = head TryStatement [] [] []
head_of (k-CatchClause x0) = head CatchClause [] [] (scope x0 ∷ [])
head_of k-ImportDeclaration = head ImportDeclaration [] [] []
head_of k-ImportSpecifier = head ImportSpecifier [] [] []
head_of k-ImportDefaultSpecifier = head ImportDefaultSpecifier [] [] []
head_of k-ImportNamespaceSpecifier = head ImportNamespaceSpecifier [] [] []
head_of (k-ImportAttribute x0 x1) = head ImportAttribute (text x0 ∷ text x1 ∷ []) [] []
head_of k-ExportNamedDeclaration = head ExportNamedDeclaration [] [] []
head_of k-ExportSpecifier = head ExportSpecifier [] [] []
head_of k-ExportDefaultDeclaration = head ExportDefaultDeclaration [] [] []
head_of k-ExportAllDeclaration = head ExportAllDeclaration [] [] []
head_of (k-Identifier x0 x1 x2) = head Identifier (text x0 ∷ []) [] (reference x1 ∷ symbol x2 ∷ [])
head_of (k-PrivateIdentifier x0) = head PrivateIdentifier (text x0 ∷ []) [] []
head_of k-ThisExpression = head ThisExpression [] [] []
head_of k-Super = head Super [] [] []
head_of k-NullLiteral = head NullLiteral [] [] []
head_of (k-BooleanLiteral x0) = head BooleanLiteral [] (x0 ∷ []) []
head_of (k-NumericLiteral x0 x1) = head NumericLiteral (text x0 ∷ text x1 ∷ []) [] []
head_of (k-BigIntLiteral x0 x1) = head BigIntLiteral (text x0 ∷ text x1 ∷ []) [] []
head_of (k-StringLiteral x0) = head StringLiteral (text x0 ∷ []) [] []
head_of (k-RegExpLiteral x0 x1) = head RegExpLiteral (text x0 ∷ text x1 ∷ []) [] []
head_of k-TemplateLiteral = head TemplateLiteral [] [] []
head_of (k-TemplateElement x0 x1) = head TemplateElement (text x0 ∷ optional_text x1 ∷ []) [] []
head_of k-TaggedTemplateExpression = head TaggedTemplateExpression [] [] []
head_of k-ArrayExpression = head ArrayExpression [] [] []
head_of k-SpreadElement = head SpreadElement [] [] []
head_of k-ObjectExpression = head ObjectExpression [] [] []
head_of (k-ObjectProperty x0 x1 x2 x3) = head ObjectProperty (Some (property_kind_text x0) ∷ []) (x1 ∷ x2 ∷ x3 ∷ []) []
head_of (k-UnaryExpression x0) = head UnaryExpression (Some (unary_operator_text x0) ∷ []) [] []
head_of (k-UpdateExpression x0 x1) = head UpdateExpression (Some (update_operator_text x0) ∷ []) (x1 ∷ []) []
head_of (k-BinaryExpression x0) = head BinaryExpression (Some (binary_operator_text x0) ∷ []) [] []
head_of (k-LogicalExpression x0) = head LogicalExpression (Some (logical_operator_text x0) ∷ []) [] []
head_of k-ConditionalExpression = head ConditionalExpression [] [] []
head_of (k-AssignmentExpression x0) = head AssignmentExpression (Some (assignment_operator_text x0) ∷ []) [] []
head_of k-SequenceExpression = head SequenceExpression [] [] []
head_of (k-MemberExpression x0 x1) = head MemberExpression [] (x0 ∷ x1 ∷ []) []
head_of (k-CallExpression x0) = head CallExpression [] (x0 ∷ []) []
head_of k-NewExpression = head NewExpression [] [] []
head_of k-ChainExpression = head ChainExpression [] [] []
head_of k-ParenthesizedExpression = head ParenthesizedExpression [] [] []
head_of (k-MetaProperty x0 x1) = head MetaProperty (text x0 ∷ text x1 ∷ []) [] []
head_of k-ObjectPattern = head ObjectPattern [] [] []
head_of (k-PatternProperty x0 x1) = head PatternProperty [] (x0 ∷ x1 ∷ []) []
head_of k-ArrayPattern = head ArrayPattern [] [] []
head_of k-AssignmentPattern = head AssignmentPattern [] [] []
head_of k-RestElement = head RestElement [] [] []
head_of k-ObjectTarget = head ObjectTarget [] [] []
head_of (k-TargetProperty x0 x1) = head TargetProperty [] (x0 ∷ x1 ∷ []) []
head_of k-ArrayTarget = head ArrayTarget [] [] []
head_of k-TargetWithDefault = head TargetWithDefault [] [] []
head_of k-TargetRest = head TargetRest [] [] []

abbrev pub label : NodeId → Span → Head → Label
label id span h = record { id = id.0; start = span.start; stop = span.end; texts = h.texts; flags = h.flags; marks = h.marks }
