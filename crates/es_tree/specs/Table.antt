-- The table of fields. Its lines are the constants of `src/statement_fields.rt`, `src/expression_fields.rt` and `src/sort_kinds.rt`; here is what they mean.
use Rattle.std.specs.Prelude.{List, [], ◌++◌, ◌||◌, ◌==◌, Bool, true, false, not, Option, Some, None, is_some, find, bytes_eq, codes, length, if◌then◌else◌}
use Rattle.es_tree.specs.Words.{Text, source_type_of, variable_declaration_kind_of, method_definition_kind_of, property_kind_of, unary_operator_of, update_operator_of, binary_operator_of, logical_operator_of, assignment_operator_of}
use Rattle.es_tree.specs.declared.ast_type.AstType.{AstType}
use Rattle.es_tree.specs.declared.ast_type.AstType.TheVariants.{
  Program,
  Directive,
  ExpressionStatement,
  BlockStatement,
  StaticBlock,
  EmptyStatement,
  DebuggerStatement,
  VariableDeclaration,
  VariableDeclarator,
  FunctionDeclaration,
  FunctionExpression,
  FunctionBody,
  ArrowFunctionExpression,
  ClassDeclaration,
  ClassExpression,
  MethodDefinition,
  PropertyDefinition,
  ReturnStatement,
  ThrowStatement,
  IfStatement,
  ForStatement,
  ForInStatement,
  ForOfStatement,
  WhileStatement,
  DoWhileStatement,
  BreakStatement,
  ContinueStatement,
  LabeledStatement,
  SwitchStatement,
  SwitchCase,
  TryStatement,
  CatchClause,
  ImportDeclaration,
  ImportSpecifier,
  ImportDefaultSpecifier,
  ImportNamespaceSpecifier,
  ImportAttribute,
  ExportNamedDeclaration,
  ExportSpecifier,
  ExportDefaultDeclaration,
  ExportAllDeclaration,
  Identifier,
  PrivateIdentifier,
  ThisExpression,
  Super,
  NullLiteral,
  BooleanLiteral,
  NumericLiteral,
  BigIntLiteral,
  StringLiteral,
  RegExpLiteral,
  TemplateLiteral,
  TemplateElement,
  TaggedTemplateExpression,
  ArrayExpression,
  SpreadElement,
  ObjectExpression,
  ObjectProperty,
  UnaryExpression,
  UpdateExpression,
  BinaryExpression,
  LogicalExpression,
  ConditionalExpression,
  AssignmentExpression,
  SequenceExpression,
  MemberExpression,
  CallExpression,
  NewExpression,
  ChainExpression,
  ParenthesizedExpression,
  MetaProperty,
  ObjectPattern,
  PatternProperty,
  ArrayPattern,
  AssignmentPattern,
  RestElement,
  ObjectTarget,
  TargetProperty,
  ArrayTarget,
  TargetWithDefault,
  TargetRest,
}
use Rattle.es_tree.specs.declared.table.FieldName.{FieldName}
use Rattle.es_tree.specs.declared.table.FieldName.TheVariants.{
  «Type» as f-Type,
  Start as f-Start,
  End as f-End,
  SourceType as f-SourceType,
  Directives as f-Directives,
  Body as f-Body,
  Value as f-Value,
  Expression as f-Expression,
  Kind as f-Kind,
  Declarations as f-Declarations,
  Id as f-Id,
  Init as f-Init,
  Async as f-Async,
  Generator as f-Generator,
  Params as f-Params,
  SuperClass as f-SuperClass,
  Static as f-Static,
  Computed as f-Computed,
  Key as f-Key,
  Argument as f-Argument,
  Test as f-Test,
  Consequent as f-Consequent,
  Alternate as f-Alternate,
  Await as f-Await,
  Update as f-Update,
  Left as f-Left,
  Right as f-Right,
  Label as f-Label,
  Discriminant as f-Discriminant,
  Cases as f-Cases,
  Block as f-Block,
  Handler as f-Handler,
  Finalizer as f-Finalizer,
  Param as f-Param,
  Specifiers as f-Specifiers,
  Source as f-Source,
  Attributes as f-Attributes,
  Imported as f-Imported,
  Local as f-Local,
  Declaration as f-Declaration,
  Exported as f-Exported,
  Name as f-Name,
  Raw as f-Raw,
  Pattern as f-Pattern,
  Flags as f-Flags,
  Quasis as f-Quasis,
  Expressions as f-Expressions,
  Cooked as f-Cooked,
  Tag as f-Tag,
  Quasi as f-Quasi,
  Elements as f-Elements,
  Properties as f-Properties,
  Method as f-Method,
  Shorthand as f-Shorthand,
  Operator as f-Operator,
  Prefix as f-Prefix,
  Object as f-Object,
  Property as f-Property,
  Optional as f-Optional,
  Callee as f-Callee,
  Arguments as f-Arguments,
  Meta as f-Meta,
}
use Rattle.es_tree.specs.declared.table.Sort.{Sort}
use Rattle.es_tree.specs.declared.table.Sort.TheVariants.{
  Program as s-Program,
  Directive as s-Directive,
  Statement as s-Statement,
  Expression as s-Expression,
  VariableDeclarator as s-VariableDeclarator,
  Binding as s-Binding,
  Pattern as s-Pattern,
  PatternRest as s-PatternRest,
  PatternMember as s-PatternMember,
  PatternMemberRest as s-PatternMemberRest,
  AssignmentTarget as s-AssignmentTarget,
  TargetElement as s-TargetElement,
  TargetElementRest as s-TargetElementRest,
  TargetMember as s-TargetMember,
  TargetMemberRest as s-TargetMemberRest,
  Identifier as s-Identifier,
  FunctionBody as s-FunctionBody,
  FunctionExpression as s-FunctionExpression,
  ArrowFunctionBody as s-ArrowFunctionBody,
  ClassElement as s-ClassElement,
  PropertyKey as s-PropertyKey,
  MemberProperty as s-MemberProperty,
  ForInit as s-ForInit,
  ForLeft as s-ForLeft,
  SwitchCase as s-SwitchCase,
  BlockStatement as s-BlockStatement,
  CatchClause as s-CatchClause,
  ImportItem as s-ImportItem,
  ImportAttribute as s-ImportAttribute,
  StringLiteral as s-StringLiteral,
  ModuleExportName as s-ModuleExportName,
  Declaration as s-Declaration,
  ExportSpecifier as s-ExportSpecifier,
  ExportDefault as s-ExportDefault,
  TemplateElement as s-TemplateElement,
  TemplateLiteral as s-TemplateLiteral,
  Argument as s-Argument,
  ObjectMember as s-ObjectMember,
  BinaryLeft as s-BinaryLeft,
  ChainElement as s-ChainElement,
}
use Rattle.es_tree.specs.declared.table.TextRule.{TextRule}
use Rattle.es_tree.specs.declared.table.TextRule.TheVariants.{
  Any as r-Any,
  Name as r-Name,
  Meta as r-Meta,
  SourceType as r-SourceType,
  VariableDeclarationKind as r-VariableDeclarationKind,
  MethodDefinitionKind as r-MethodDefinitionKind,
  PropertyKind as r-PropertyKind,
  UnaryOperator as r-UnaryOperator,
  UpdateOperator as r-UpdateOperator,
  BinaryOperator as r-BinaryOperator,
  LogicalOperator as r-LogicalOperator,
  AssignmentOperator as r-AssignmentOperator,
}
use Rattle.es_tree.specs.declared.table.Entry.{Entry}
use Rattle.es_tree.specs.declared.statement_fields.TheConstants.{
  ARROW_FUNCTION_EXPRESSION,
  BLOCK_STATEMENT,
  BREAK_STATEMENT,
  CATCH_CLAUSE,
  CLASS_DECLARATION,
  DIRECTIVE,
  DO_WHILE_STATEMENT,
  EXPORT_ALL_DECLARATION,
  EXPORT_DEFAULT_DECLARATION,
  EXPORT_NAMED_DECLARATION,
  EXPORT_SPECIFIER,
  EXPRESSION_STATEMENT,
  FOR_IN_STATEMENT,
  FOR_STATEMENT,
  FUNCTION_BODY,
  FUNCTION_DECLARATION,
  IF_STATEMENT,
  IMPORT_ATTRIBUTE,
  IMPORT_DECLARATION,
  IMPORT_DEFAULT_SPECIFIER,
  IMPORT_SPECIFIER,
  LABELED_STATEMENT,
  METHOD_DEFINITION,
  NO_ENTRIES,
  PROGRAM,
  PROPERTY_DEFINITION,
  RETURN_STATEMENT,
  SWITCH_CASE,
  SWITCH_STATEMENT,
  THROW_STATEMENT,
  TRY_STATEMENT,
  VARIABLE_DECLARATION,
  VARIABLE_DECLARATOR,
  WHILE_STATEMENT,
}
use Rattle.es_tree.specs.declared.expression_fields.TheConstants.{
  ARRAY_EXPRESSION,
  ARRAY_PATTERN,
  ARRAY_TARGET,
  ASSIGNMENT_EXPRESSION,
  ASSIGNMENT_PATTERN,
  BINARY_EXPRESSION,
  BOOLEAN_LITERAL,
  CALL_EXPRESSION,
  CHAIN_EXPRESSION,
  CONDITIONAL_EXPRESSION,
  IDENTIFIER,
  LOGICAL_EXPRESSION,
  MEMBER_EXPRESSION,
  META_PROPERTY,
  NEW_EXPRESSION,
  NUMERIC_LITERAL,
  OBJECT_EXPRESSION,
  OBJECT_PATTERN,
  OBJECT_PROPERTY,
  OBJECT_TARGET,
  PATTERN_PROPERTY,
  REG_EXP_LITERAL,
  REST_ELEMENT,
  SEQUENCE_EXPRESSION,
  TAGGED_TEMPLATE_EXPRESSION,
  TARGET_PROPERTY,
  TARGET_REST,
  TARGET_WITH_DEFAULT,
  TEMPLATE_ELEMENT,
  TEMPLATE_LITERAL,
  UNARY_EXPRESSION,
  UPDATE_EXPRESSION,
}
use Rattle.es_tree.specs.declared.sort_kinds.TheConstants.{
  ARGUMENT_KINDS,
  ASSIGNMENT_TARGET_KINDS,
  BINARY_LEFT_KINDS,
  BINDING_KINDS,
  BLOCK_STATEMENT_KINDS,
  CATCH_CLAUSE_KINDS,
  CHAIN_ELEMENT_KINDS,
  CLASS_ELEMENT_KINDS,
  DECLARATION_KINDS,
  DIRECTIVE_KINDS,
  EXPORT_DEFAULT_KINDS,
  EXPORT_SPECIFIER_KINDS,
  EXPRESSION_KINDS,
  FOR_INIT_KINDS,
  FOR_LEFT_KINDS,
  FUNCTION_BODY_KINDS,
  FUNCTION_EXPRESSION_KINDS,
  IDENTIFIER_KINDS,
  IMPORT_ATTRIBUTE_KINDS,
  IMPORT_ITEM_KINDS,
  MEMBER_PROPERTY_KINDS,
  MODULE_EXPORT_NAME_KINDS,
  NO_KINDS,
  OBJECT_MEMBER_KINDS,
  PATTERN_KINDS,
  PATTERN_MEMBER_KINDS,
  PATTERN_MEMBER_REST_KINDS,
  PATTERN_REST_KINDS,
  PROGRAM_KINDS,
  PROPERTY_KEY_KINDS,
  STATEMENT_KINDS,
  STRING_LITERAL_KINDS,
  SWITCH_CASE_KINDS,
  TARGET_ELEMENT_KINDS,
  TARGET_ELEMENT_REST_KINDS,
  TARGET_MEMBER_KINDS,
  TARGET_MEMBER_REST_KINDS,
  TEMPLATE_ELEMENT_KINDS,
  TEMPLATE_LITERAL_KINDS,
  VARIABLE_DECLARATOR_KINDS,
}

-- the text of the field `type`
abbrev pub type_name : AstType → Text
type_name Program = codes "Program"
type_name Directive = codes "Directive"
type_name ExpressionStatement = codes "ExpressionStatement"
type_name BlockStatement = codes "BlockStatement"
type_name StaticBlock = codes "StaticBlock"
type_name EmptyStatement = codes "EmptyStatement"
type_name DebuggerStatement = codes "DebuggerStatement"
type_name VariableDeclaration = codes "VariableDeclaration"
type_name VariableDeclarator = codes "VariableDeclarator"
type_name FunctionDeclaration = codes "FunctionDeclaration"
type_name FunctionExpression = codes "FunctionExpression"
type_name FunctionBody = codes "FunctionBody"
type_name ArrowFunctionExpression = codes "ArrowFunctionExpression"
type_name ClassDeclaration = codes "ClassDeclaration"
type_name ClassExpression = codes "ClassExpression"
type_name MethodDefinition = codes "MethodDefinition"
type_name PropertyDefinition = codes "PropertyDefinition"
type_name ReturnStatement = codes "ReturnStatement"
type_name ThrowStatement = codes "ThrowStatement"
type_name IfStatement = codes "IfStatement"
type_name ForStatement = codes "ForStatement"
type_name ForInStatement = codes "ForInStatement"
type_name ForOfStatement = codes "ForOfStatement"
type_name WhileStatement = codes "WhileStatement"
type_name DoWhileStatement = codes "DoWhileStatement"
type_name BreakStatement = codes "BreakStatement"
type_name ContinueStatement = codes "ContinueStatement"
type_name LabeledStatement = codes "LabeledStatement"
type_name SwitchStatement = codes "SwitchStatement"
type_name SwitchCase = codes "SwitchCase"
type_name TryStatement = codes "TryStatement"
type_name CatchClause = codes "CatchClause"
type_name ImportDeclaration = codes "ImportDeclaration"
type_name ImportSpecifier = codes "ImportSpecifier"
type_name ImportDefaultSpecifier = codes "ImportDefaultSpecifier"
type_name ImportNamespaceSpecifier = codes "ImportNamespaceSpecifier"
type_name ImportAttribute = codes "ImportAttribute"
type_name ExportNamedDeclaration = codes "ExportNamedDeclaration"
type_name ExportSpecifier = codes "ExportSpecifier"
type_name ExportDefaultDeclaration = codes "ExportDefaultDeclaration"
type_name ExportAllDeclaration = codes "ExportAllDeclaration"
type_name Identifier = codes "Identifier"
type_name PrivateIdentifier = codes "PrivateIdentifier"
type_name ThisExpression = codes "ThisExpression"
type_name Super = codes "Super"
type_name NullLiteral = codes "NullLiteral"
type_name BooleanLiteral = codes "BooleanLiteral"
type_name NumericLiteral = codes "NumericLiteral"
type_name BigIntLiteral = codes "BigIntLiteral"
type_name StringLiteral = codes "StringLiteral"
type_name RegExpLiteral = codes "RegExpLiteral"
type_name TemplateLiteral = codes "TemplateLiteral"
type_name TemplateElement = codes "TemplateElement"
type_name TaggedTemplateExpression = codes "TaggedTemplateExpression"
type_name ArrayExpression = codes "ArrayExpression"
type_name SpreadElement = codes "SpreadElement"
type_name ObjectExpression = codes "ObjectExpression"
type_name ObjectProperty = codes "Property"
type_name UnaryExpression = codes "UnaryExpression"
type_name UpdateExpression = codes "UpdateExpression"
type_name BinaryExpression = codes "BinaryExpression"
type_name LogicalExpression = codes "LogicalExpression"
type_name ConditionalExpression = codes "ConditionalExpression"
type_name AssignmentExpression = codes "AssignmentExpression"
type_name SequenceExpression = codes "SequenceExpression"
type_name MemberExpression = codes "MemberExpression"
type_name CallExpression = codes "CallExpression"
type_name NewExpression = codes "NewExpression"
type_name ChainExpression = codes "ChainExpression"
type_name ParenthesizedExpression = codes "ParenthesizedExpression"
type_name MetaProperty = codes "MetaProperty"
type_name ObjectPattern = codes "ObjectPattern"
type_name PatternProperty = codes "Property"
type_name ArrayPattern = codes "ArrayPattern"
type_name AssignmentPattern = codes "AssignmentPattern"
type_name RestElement = codes "RestElement"
type_name ObjectTarget = codes "ObjectPattern"
type_name TargetProperty = codes "Property"
type_name ArrayTarget = codes "ArrayPattern"
type_name TargetWithDefault = codes "AssignmentPattern"
type_name TargetRest = codes "RestElement"

-- the key of a field
abbrev pub field_text : FieldName → Text
field_text f-Type = codes "type"
field_text f-Start = codes "start"
field_text f-End = codes "end"
field_text f-SourceType = codes "sourceType"
field_text f-Directives = codes "directives"
field_text f-Body = codes "body"
field_text f-Value = codes "value"
field_text f-Expression = codes "expression"
field_text f-Kind = codes "kind"
field_text f-Declarations = codes "declarations"
field_text f-Id = codes "id"
field_text f-Init = codes "init"
field_text f-Async = codes "async"
field_text f-Generator = codes "generator"
field_text f-Params = codes "params"
field_text f-SuperClass = codes "superClass"
field_text f-Static = codes "static"
field_text f-Computed = codes "computed"
field_text f-Key = codes "key"
field_text f-Argument = codes "argument"
field_text f-Test = codes "test"
field_text f-Consequent = codes "consequent"
field_text f-Alternate = codes "alternate"
field_text f-Await = codes "await"
field_text f-Update = codes "update"
field_text f-Left = codes "left"
field_text f-Right = codes "right"
field_text f-Label = codes "label"
field_text f-Discriminant = codes "discriminant"
field_text f-Cases = codes "cases"
field_text f-Block = codes "block"
field_text f-Handler = codes "handler"
field_text f-Finalizer = codes "finalizer"
field_text f-Param = codes "param"
field_text f-Specifiers = codes "specifiers"
field_text f-Source = codes "source"
field_text f-Attributes = codes "attributes"
field_text f-Imported = codes "imported"
field_text f-Local = codes "local"
field_text f-Declaration = codes "declaration"
field_text f-Exported = codes "exported"
field_text f-Name = codes "name"
field_text f-Raw = codes "raw"
field_text f-Pattern = codes "pattern"
field_text f-Flags = codes "flags"
field_text f-Quasis = codes "quasis"
field_text f-Expressions = codes "expressions"
field_text f-Cooked = codes "cooked"
field_text f-Tag = codes "tag"
field_text f-Quasi = codes "quasi"
field_text f-Elements = codes "elements"
field_text f-Properties = codes "properties"
field_text f-Method = codes "method"
field_text f-Shorthand = codes "shorthand"
field_text f-Operator = codes "operator"
field_text f-Prefix = codes "prefix"
field_text f-Object = codes "object"
field_text f-Property = codes "property"
field_text f-Optional = codes "optional"
field_text f-Callee = codes "callee"
field_text f-Arguments = codes "arguments"
field_text f-Meta = codes "meta"

-- the fields of a kind, in reading order
abbrev pub entries : AstType → List Entry
entries Program = PROGRAM
entries Directive = DIRECTIVE
entries ExpressionStatement = EXPRESSION_STATEMENT
entries BlockStatement = BLOCK_STATEMENT
entries StaticBlock = BLOCK_STATEMENT
entries EmptyStatement = NO_ENTRIES
entries DebuggerStatement = NO_ENTRIES
entries VariableDeclaration = VARIABLE_DECLARATION
entries VariableDeclarator = VARIABLE_DECLARATOR
entries FunctionDeclaration = FUNCTION_DECLARATION
entries FunctionExpression = FUNCTION_DECLARATION
entries FunctionBody = FUNCTION_BODY
entries ArrowFunctionExpression = ARROW_FUNCTION_EXPRESSION
entries ClassDeclaration = CLASS_DECLARATION
entries ClassExpression = CLASS_DECLARATION
entries MethodDefinition = METHOD_DEFINITION
entries PropertyDefinition = PROPERTY_DEFINITION
entries ReturnStatement = RETURN_STATEMENT
entries ThrowStatement = THROW_STATEMENT
entries IfStatement = IF_STATEMENT
entries ForStatement = FOR_STATEMENT
entries ForInStatement = FOR_IN_STATEMENT
entries ForOfStatement = FOR_IN_STATEMENT
entries WhileStatement = WHILE_STATEMENT
entries DoWhileStatement = DO_WHILE_STATEMENT
entries BreakStatement = BREAK_STATEMENT
entries ContinueStatement = BREAK_STATEMENT
entries LabeledStatement = LABELED_STATEMENT
entries SwitchStatement = SWITCH_STATEMENT
entries SwitchCase = SWITCH_CASE
entries TryStatement = TRY_STATEMENT
entries CatchClause = CATCH_CLAUSE
entries ImportDeclaration = IMPORT_DECLARATION
entries ImportSpecifier = IMPORT_SPECIFIER
entries ImportDefaultSpecifier = IMPORT_DEFAULT_SPECIFIER
entries ImportNamespaceSpecifier = IMPORT_DEFAULT_SPECIFIER
entries ImportAttribute = IMPORT_ATTRIBUTE
entries ExportNamedDeclaration = EXPORT_NAMED_DECLARATION
entries ExportSpecifier = EXPORT_SPECIFIER
entries ExportDefaultDeclaration = EXPORT_DEFAULT_DECLARATION
entries ExportAllDeclaration = EXPORT_ALL_DECLARATION
entries Identifier = IDENTIFIER
entries PrivateIdentifier = IDENTIFIER
entries ThisExpression = NO_ENTRIES
entries Super = NO_ENTRIES
entries NullLiteral = NO_ENTRIES
entries BooleanLiteral = BOOLEAN_LITERAL
entries NumericLiteral = NUMERIC_LITERAL
entries BigIntLiteral = NUMERIC_LITERAL
entries StringLiteral = DIRECTIVE
entries RegExpLiteral = REG_EXP_LITERAL
entries TemplateLiteral = TEMPLATE_LITERAL
entries TemplateElement = TEMPLATE_ELEMENT
entries TaggedTemplateExpression = TAGGED_TEMPLATE_EXPRESSION
entries ArrayExpression = ARRAY_EXPRESSION
entries SpreadElement = THROW_STATEMENT
entries ObjectExpression = OBJECT_EXPRESSION
entries ObjectProperty = OBJECT_PROPERTY
entries UnaryExpression = UNARY_EXPRESSION
entries UpdateExpression = UPDATE_EXPRESSION
entries BinaryExpression = BINARY_EXPRESSION
entries LogicalExpression = LOGICAL_EXPRESSION
entries ConditionalExpression = CONDITIONAL_EXPRESSION
entries AssignmentExpression = ASSIGNMENT_EXPRESSION
entries SequenceExpression = SEQUENCE_EXPRESSION
entries MemberExpression = MEMBER_EXPRESSION
entries CallExpression = CALL_EXPRESSION
entries NewExpression = NEW_EXPRESSION
entries ChainExpression = CHAIN_EXPRESSION
entries ParenthesizedExpression = EXPRESSION_STATEMENT
entries MetaProperty = META_PROPERTY
entries ObjectPattern = OBJECT_PATTERN
entries PatternProperty = PATTERN_PROPERTY
entries ArrayPattern = ARRAY_PATTERN
entries AssignmentPattern = ASSIGNMENT_PATTERN
entries RestElement = REST_ELEMENT
entries ObjectTarget = OBJECT_TARGET
entries TargetProperty = TARGET_PROPERTY
entries ArrayTarget = ARRAY_TARGET
entries TargetWithDefault = TARGET_WITH_DEFAULT
entries TargetRest = TARGET_REST

-- the kinds of a sort that stand before the expressions
abbrev pub own_kinds : Sort → List AstType
own_kinds s-Program = PROGRAM_KINDS
own_kinds s-Directive = DIRECTIVE_KINDS
own_kinds s-Statement = STATEMENT_KINDS
own_kinds s-Expression = NO_KINDS
own_kinds s-VariableDeclarator = VARIABLE_DECLARATOR_KINDS
own_kinds s-Binding = BINDING_KINDS
own_kinds s-Pattern = PATTERN_KINDS
own_kinds s-PatternRest = PATTERN_REST_KINDS
own_kinds s-PatternMember = PATTERN_MEMBER_KINDS
own_kinds s-PatternMemberRest = PATTERN_MEMBER_REST_KINDS
own_kinds s-AssignmentTarget = ASSIGNMENT_TARGET_KINDS
own_kinds s-TargetElement = TARGET_ELEMENT_KINDS
own_kinds s-TargetElementRest = TARGET_ELEMENT_REST_KINDS
own_kinds s-TargetMember = TARGET_MEMBER_KINDS
own_kinds s-TargetMemberRest = TARGET_MEMBER_REST_KINDS
own_kinds s-Identifier = IDENTIFIER_KINDS
own_kinds s-FunctionBody = FUNCTION_BODY_KINDS
own_kinds s-FunctionExpression = FUNCTION_EXPRESSION_KINDS
own_kinds s-ArrowFunctionBody = FUNCTION_BODY_KINDS
own_kinds s-ClassElement = CLASS_ELEMENT_KINDS
own_kinds s-PropertyKey = PROPERTY_KEY_KINDS
own_kinds s-MemberProperty = MEMBER_PROPERTY_KINDS
own_kinds s-ForInit = FOR_INIT_KINDS
own_kinds s-ForLeft = FOR_LEFT_KINDS
own_kinds s-SwitchCase = SWITCH_CASE_KINDS
own_kinds s-BlockStatement = BLOCK_STATEMENT_KINDS
own_kinds s-CatchClause = CATCH_CLAUSE_KINDS
own_kinds s-ImportItem = IMPORT_ITEM_KINDS
own_kinds s-ImportAttribute = IMPORT_ATTRIBUTE_KINDS
own_kinds s-StringLiteral = STRING_LITERAL_KINDS
own_kinds s-ModuleExportName = MODULE_EXPORT_NAME_KINDS
own_kinds s-Declaration = DECLARATION_KINDS
own_kinds s-ExportSpecifier = EXPORT_SPECIFIER_KINDS
own_kinds s-ExportDefault = EXPORT_DEFAULT_KINDS
own_kinds s-TemplateElement = TEMPLATE_ELEMENT_KINDS
own_kinds s-TemplateLiteral = TEMPLATE_LITERAL_KINDS
own_kinds s-Argument = ARGUMENT_KINDS
own_kinds s-ObjectMember = OBJECT_MEMBER_KINDS
own_kinds s-BinaryLeft = BINARY_LEFT_KINDS
own_kinds s-ChainElement = CHAIN_ELEMENT_KINDS

abbrev pub takes_expressions : Sort → Bool
takes_expressions s-Expression = true
takes_expressions s-AssignmentTarget = true
takes_expressions s-TargetElement = true
takes_expressions s-TargetElementRest = true
takes_expressions s-ArrowFunctionBody = true
takes_expressions s-ForInit = true
takes_expressions s-ForLeft = true
takes_expressions s-ExportDefault = true
takes_expressions s-Argument = true
takes_expressions s-BinaryLeft = true
takes_expressions _ = false

-- the kinds that may stand at a place of this sort
abbrev pub kinds_of : Sort → List AstType
kinds_of s = own_kinds s ++ (if takes_expressions s then EXPRESSION_KINDS else [])

abbrev pub is_named : Text → AstType → Bool
is_named name k = bytes_eq (type_name k) name

abbrev pub first_of : Option AstType → Option AstType → Option AstType
first_of None b = b
first_of (Some a) b = Some a

-- the kind of this sort with this name: names are told apart within a sort
abbrev pub kind_named : Sort → Text → Option AstType
kind_named s name = first_of (find (is_named name) (own_kinds s)) (if takes_expressions s then find (is_named name) EXPRESSION_KINDS else None)

-- the sort of a last node that may be a rest element
abbrev pub rest_sort : Sort → Sort
rest_sort s-Pattern = s-PatternRest
rest_sort s-PatternMember = s-PatternMemberRest
rest_sort s-TargetElement = s-TargetElementRest
rest_sort s-TargetMember = s-TargetMemberRest
rest_sort s = s

-- whether a field under this rule may hold this text
abbrev pub allows_text : TextRule → Text → Bool
allows_text r-Any t = true
allows_text r-Name t = not (length t == 0)
allows_text r-Meta t = bytes_eq t (codes "new") || bytes_eq t (codes "import")
allows_text r-SourceType t = is_some (source_type_of t)
allows_text r-VariableDeclarationKind t = is_some (variable_declaration_kind_of t)
allows_text r-MethodDefinitionKind t = is_some (method_definition_kind_of t)
allows_text r-PropertyKind t = is_some (property_kind_of t)
allows_text r-UnaryOperator t = is_some (unary_operator_of t)
allows_text r-UpdateOperator t = is_some (update_operator_of t)
allows_text r-BinaryOperator t = is_some (binary_operator_of t)
allows_text r-LogicalOperator t = is_some (logical_operator_of t)
allows_text r-AssignmentOperator t = is_some (assignment_operator_of t)
