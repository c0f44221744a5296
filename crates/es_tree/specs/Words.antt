-- The texts of words and operators.
use Rattle.std.specs.Prelude.{ℕ, List, Option, find, bytes_eq, codes}
use Rattle.es_tree.specs.declared.operators.SourceType.{SourceType}
use Rattle.es_tree.specs.declared.operators.SourceType.TheVariants.{Module as SourceType-Module, Script as SourceType-Script}
use Rattle.es_tree.specs.declared.operators.VariableDeclarationKind.{VariableDeclarationKind}
use Rattle.es_tree.specs.declared.operators.VariableDeclarationKind.TheVariants.{Var as VariableDeclarationKind-Var, Let as VariableDeclarationKind-Let, Const as VariableDeclarationKind-Const, Using as VariableDeclarationKind-Using}
use Rattle.es_tree.specs.declared.operators.MethodDefinitionKind.{MethodDefinitionKind}
use Rattle.es_tree.specs.declared.operators.MethodDefinitionKind.TheVariants.{Constructor as MethodDefinitionKind-Constructor, Method as MethodDefinitionKind-Method, Get as MethodDefinitionKind-Get, Set as MethodDefinitionKind-Set}
use Rattle.es_tree.specs.declared.operators.PropertyKind.{PropertyKind}
use Rattle.es_tree.specs.declared.operators.PropertyKind.TheVariants.{Init as PropertyKind-Init, Get as PropertyKind-Get, Set as PropertyKind-Set}
use Rattle.es_tree.specs.declared.operators.UnaryOperator.{UnaryOperator}
use Rattle.es_tree.specs.declared.operators.UnaryOperator.TheVariants.{UnaryNegation as UnaryOperator-UnaryNegation, UnaryPlus as UnaryOperator-UnaryPlus, LogicalNot as UnaryOperator-LogicalNot, BitwiseNot as UnaryOperator-BitwiseNot, Typeof as UnaryOperator-Typeof, Void as UnaryOperator-Void, Delete as UnaryOperator-Delete}
use Rattle.es_tree.specs.declared.operators.UpdateOperator.{UpdateOperator}
use Rattle.es_tree.specs.declared.operators.UpdateOperator.TheVariants.{Increment as UpdateOperator-Increment, Decrement as UpdateOperator-Decrement}
use Rattle.es_tree.specs.declared.operators.BinaryOperator.{BinaryOperator}
use Rattle.es_tree.specs.declared.operators.BinaryOperator.TheVariants.{Equality as BinaryOperator-Equality, Inequality as BinaryOperator-Inequality, StrictEquality as BinaryOperator-StrictEquality, StrictInequality as BinaryOperator-StrictInequality, LessThan as BinaryOperator-LessThan, LessEqualThan as BinaryOperator-LessEqualThan, GreaterThan as BinaryOperator-GreaterThan, GreaterEqualThan as BinaryOperator-GreaterEqualThan, ShiftLeft as BinaryOperator-ShiftLeft, ShiftRight as BinaryOperator-ShiftRight, ShiftRightZeroFill as BinaryOperator-ShiftRightZeroFill, Addition as BinaryOperator-Addition, Subtraction as BinaryOperator-Subtraction, Multiplication as BinaryOperator-Multiplication, Division as BinaryOperator-Division, Remainder as BinaryOperator-Remainder, Exponential as BinaryOperator-Exponential, BitwiseOr as BinaryOperator-BitwiseOr, BitwiseXor as BinaryOperator-BitwiseXor, BitwiseAnd as BinaryOperator-BitwiseAnd, In as BinaryOperator-In, Instanceof as BinaryOperator-Instanceof}
use Rattle.es_tree.specs.declared.operators.LogicalOperator.{LogicalOperator}
use Rattle.es_tree.specs.declared.operators.LogicalOperator.TheVariants.{Or as LogicalOperator-Or, And as LogicalOperator-And, Coalesce as LogicalOperator-Coalesce}
use Rattle.es_tree.specs.declared.operators.AssignmentOperator.{AssignmentOperator}
use Rattle.es_tree.specs.declared.operators.AssignmentOperator.TheVariants.{Assign as AssignmentOperator-Assign, Addition as AssignmentOperator-Addition, Subtraction as AssignmentOperator-Subtraction, Multiplication as AssignmentOperator-Multiplication, Division as AssignmentOperator-Division, Remainder as AssignmentOperator-Remainder, Exponential as AssignmentOperator-Exponential, ShiftLeft as AssignmentOperator-ShiftLeft, ShiftRight as AssignmentOperator-ShiftRight, ShiftRightZeroFill as AssignmentOperator-ShiftRightZeroFill, BitwiseOr as AssignmentOperator-BitwiseOr, BitwiseXor as AssignmentOperator-BitwiseXor, BitwiseAnd as AssignmentOperator-BitwiseAnd, LogicalOr as AssignmentOperator-LogicalOr, LogicalAnd as AssignmentOperator-LogicalAnd, LogicalNullish as AssignmentOperator-LogicalNullish}
use Rattle.es_tree.specs.declared.operators.TheConstants.{SOURCE_TYPES, VARIABLE_DECLARATION_KINDS, METHOD_DEFINITION_KINDS, PROPERTY_KINDS, UNARY_OPERATORS, UPDATE_OPERATORS, BINARY_OPERATORS, LOGICAL_OPERATORS, ASSIGNMENT_OPERATORS}

-- A text is the list of its bytes.
abbrev pub Text : Type 0
Text = List ℕ

abbrev pub source_type_text : SourceType → Text
source_type_text SourceType-Module = codes "module"
source_type_text SourceType-Script = codes "script"

abbrev pub source_type_of : Text → Option SourceType
source_type_of s = find (λ w. bytes_eq (source_type_text w) s) SOURCE_TYPES

abbrev pub variable_declaration_kind_text : VariableDeclarationKind → Text
variable_declaration_kind_text VariableDeclarationKind-Var = codes "var"
variable_declaration_kind_text VariableDeclarationKind-Let = codes "let"
variable_declaration_kind_text VariableDeclarationKind-Const = codes "const"
variable_declaration_kind_text VariableDeclarationKind-Using = codes "using"

abbrev pub variable_declaration_kind_of : Text → Option VariableDeclarationKind
variable_declaration_kind_of s = find (λ w. bytes_eq (variable_declaration_kind_text w) s) VARIABLE_DECLARATION_KINDS

abbrev pub method_definition_kind_text : MethodDefinitionKind → Text
method_definition_kind_text MethodDefinitionKind-Constructor = codes "constructor"
method_definition_kind_text MethodDefinitionKind-Method = codes "method"
method_definition_kind_text MethodDefinitionKind-Get = codes "get"
method_definition_kind_text MethodDefinitionKind-Set = codes "set"

abbrev pub method_definition_kind_of : Text → Option MethodDefinitionKind
method_definition_kind_of s = find (λ w. bytes_eq (method_definition_kind_text w) s) METHOD_DEFINITION_KINDS

abbrev pub property_kind_text : PropertyKind → Text
property_kind_text PropertyKind-Init = codes "init"
property_kind_text PropertyKind-Get = codes "get"
property_kind_text PropertyKind-Set = codes "set"

abbrev pub property_kind_of : Text → Option PropertyKind
property_kind_of s = find (λ w. bytes_eq (property_kind_text w) s) PROPERTY_KINDS

abbrev pub unary_operator_text : UnaryOperator → Text
unary_operator_text UnaryOperator-UnaryNegation = codes "-"
unary_operator_text UnaryOperator-UnaryPlus = codes "+"
unary_operator_text UnaryOperator-LogicalNot = codes "!"
unary_operator_text UnaryOperator-BitwiseNot = codes "~"
unary_operator_text UnaryOperator-Typeof = codes "typeof"
unary_operator_text UnaryOperator-Void = codes "void"
unary_operator_text UnaryOperator-Delete = codes "delete"

abbrev pub unary_operator_of : Text → Option UnaryOperator
unary_operator_of s = find (λ w. bytes_eq (unary_operator_text w) s) UNARY_OPERATORS

abbrev pub update_operator_text : UpdateOperator → Text
update_operator_text UpdateOperator-Increment = codes "++"
update_operator_text UpdateOperator-Decrement = codes "--"

abbrev pub update_operator_of : Text → Option UpdateOperator
update_operator_of s = find (λ w. bytes_eq (update_operator_text w) s) UPDATE_OPERATORS

abbrev pub binary_operator_text : BinaryOperator → Text
binary_operator_text BinaryOperator-Equality = codes "=="
binary_operator_text BinaryOperator-Inequality = codes "!="
binary_operator_text BinaryOperator-StrictEquality = codes "==="
binary_operator_text BinaryOperator-StrictInequality = codes "!=="
binary_operator_text BinaryOperator-LessThan = codes "<"
binary_operator_text BinaryOperator-LessEqualThan = codes "<="
binary_operator_text BinaryOperator-GreaterThan = codes ">"
binary_operator_text BinaryOperator-GreaterEqualThan = codes ">="
binary_operator_text BinaryOperator-ShiftLeft = codes "<<"
binary_operator_text BinaryOperator-ShiftRight = codes ">>"
binary_operator_text BinaryOperator-ShiftRightZeroFill = codes ">>>"
binary_operator_text BinaryOperator-Addition = codes "+"
binary_operator_text BinaryOperator-Subtraction = codes "-"
binary_operator_text BinaryOperator-Multiplication = codes "*"
binary_operator_text BinaryOperator-Division = codes "/"
binary_operator_text BinaryOperator-Remainder = codes "%"
binary_operator_text BinaryOperator-Exponential = codes "**"
binary_operator_text BinaryOperator-BitwiseOr = codes "|"
binary_operator_text BinaryOperator-BitwiseXor = codes "^"
binary_operator_text BinaryOperator-BitwiseAnd = codes "&"
binary_operator_text BinaryOperator-In = codes "in"
binary_operator_text BinaryOperator-Instanceof = codes "instanceof"

abbrev pub binary_operator_of : Text → Option BinaryOperator
binary_operator_of s = find (λ w. bytes_eq (binary_operator_text w) s) BINARY_OPERATORS

abbrev pub logical_operator_text : LogicalOperator → Text
logical_operator_text LogicalOperator-Or = codes "||"
logical_operator_text LogicalOperator-And = codes "&&"
logical_operator_text LogicalOperator-Coalesce = codes "??"

abbrev pub logical_operator_of : Text → Option LogicalOperator
logical_operator_of s = find (λ w. bytes_eq (logical_operator_text w) s) LOGICAL_OPERATORS

abbrev pub assignment_operator_text : AssignmentOperator → Text
assignment_operator_text AssignmentOperator-Assign = codes "="
assignment_operator_text AssignmentOperator-Addition = codes "+="
assignment_operator_text AssignmentOperator-Subtraction = codes "-="
assignment_operator_text AssignmentOperator-Multiplication = codes "*="
assignment_operator_text AssignmentOperator-Division = codes "/="
assignment_operator_text AssignmentOperator-Remainder = codes "%="
assignment_operator_text AssignmentOperator-Exponential = codes "**="
assignment_operator_text AssignmentOperator-ShiftLeft = codes "<<="
assignment_operator_text AssignmentOperator-ShiftRight = codes ">>="
assignment_operator_text AssignmentOperator-ShiftRightZeroFill = codes ">>>="
assignment_operator_text AssignmentOperator-BitwiseOr = codes "|="
assignment_operator_text AssignmentOperator-BitwiseXor = codes "^="
assignment_operator_text AssignmentOperator-BitwiseAnd = codes "&="
assignment_operator_text AssignmentOperator-LogicalOr = codes "||="
assignment_operator_text AssignmentOperator-LogicalAnd = codes "&&="
assignment_operator_text AssignmentOperator-LogicalNullish = codes "??="

abbrev pub assignment_operator_of : Text → Option AssignmentOperator
assignment_operator_of s = find (λ w. bytes_eq (assignment_operator_text w) s) ASSIGNMENT_OPERATORS
