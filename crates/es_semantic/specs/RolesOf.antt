-- What stands in the fields of a node, by its kind and by what it is itself (ECMA-262, 8.2, 13.1; for what writes, 13.4,
-- 13.15 and 14.7.5). Patterns and parentheses hand on what they are.
use Rattle.std.specs.Prelude.{ℕ, zero, suc, Bool, true, false, not, is_some, bytes_eq, codes, if◌then◌else◌}
use Rattle.es_tree.specs.Children.{child_at}
use Rattle.es_tree.specs.Names.{first_text, is_name_place, third_stands}
use Rattle.es_tree.specs.Tree.{Label, Fields}
use Rattle.es_tree.specs.Words.{Text}
use Rattle.es_tree.specs.declared.ast_type.AstType.{AstType}
use Rattle.es_tree.specs.declared.ast_type.AstType.TheVariants.{
  Program,
  StaticBlock,
  VariableDeclaration,
  VariableDeclarator,
  FunctionDeclaration,
  FunctionExpression,
  FunctionBody,
  ArrowFunctionExpression,
  ClassDeclaration,
  ClassExpression,
  MethodDefinition,
  ForInStatement,
  ForOfStatement,
  CatchClause,
  ImportSpecifier,
  ImportDefaultSpecifier,
  ImportNamespaceSpecifier,
  ExportNamedDeclaration,
  ExportDefaultDeclaration,
  ExportSpecifier,
  AssignmentExpression,
  UpdateExpression,
  ParenthesizedExpression,
  ObjectPattern,
  PatternProperty,
  ArrayPattern,
  AssignmentPattern,
  RestElement,
  ObjectTarget,
  TargetProperty,
  ArrayTarget,
  TargetWithDefault,
  TargetRest,
}
use Rattle.es_semantic.specs.declared.place.Binding.{Binding}
use Rattle.es_semantic.specs.declared.place.Binding.TheVariants.{Variable, Let, Constant, TopFunction, BlockFunction, Parameter, CatchParameter, FunctionName, Class, Import}
use Rattle.es_semantic.specs.declared.place.Role.{Role}
use Rattle.es_semantic.specs.declared.place.Role.TheVariants.{Nothing, Binds, Refers, Top, Member, Constructor}

-- REFERENCES

abbrev pub refers : Bool → Bool → Role
refers r w = Refers (record { read = r; write = w })

abbrev pub reads : Role
reads = refers true false

-- the target of an assignment: a compound one reads it too
abbrev pub target_of : Text → Role
target_of operator = refers (not (bytes_eq operator (codes "="))) true

-- DECLARATIONS

-- by the word of the declaration
abbrev pub binding_of : Text → Binding
binding_of word = if bytes_eq word (codes "var") then Variable else if bytes_eq word (codes "let") then Let else Constant

abbrev pub function_binding : Role → Binding
function_binding Top = TopFunction
function_binding _ = BlockFunction

-- CLASSES

-- whether a class extends another
abbrev pub extends : Fields → Bool
extends fs = is_some (child_at 1 fs)

abbrev pub member_role : Text → Role → Role
member_role word (Member derived) = if bytes_eq word (codes "constructor") then Constructor derived else Nothing
member_role word _ = Nothing

-- THE FIELDS OF A NODE, counted from 0

abbrev pub role_at : Role → AstType → Label → Fields → ℕ → Role
role_at r Program l fs (suc zero) = Top
role_at r FunctionBody l fs (suc zero) = Top
role_at r StaticBlock l fs zero = Top
role_at r ExportNamedDeclaration l fs zero = r
role_at r ExportDefaultDeclaration l fs zero = r
role_at r VariableDeclaration l fs zero = Binds (binding_of (first_text l.texts))
role_at r VariableDeclarator l fs zero = r
role_at r FunctionDeclaration l fs zero = Binds (function_binding r)
role_at r FunctionDeclaration l fs (suc zero) = Binds Parameter
role_at r FunctionExpression l fs zero = Binds FunctionName
role_at r FunctionExpression l fs (suc zero) = Binds Parameter
role_at r ArrowFunctionExpression l fs zero = Binds Parameter
role_at r ClassDeclaration l fs zero = Binds Class
role_at r ClassDeclaration l fs (suc (suc zero)) = Member (extends fs)
role_at r ClassExpression l fs zero = Binds Class
role_at r ClassExpression l fs (suc (suc zero)) = Member (extends fs)
role_at r MethodDefinition l fs (suc zero) = member_role (first_text l.texts) r
role_at r CatchClause l fs zero = Binds CatchParameter
role_at r ImportSpecifier l fs (suc zero) = Binds Import
role_at r ImportDefaultSpecifier l fs zero = Binds Import
role_at r ImportNamespaceSpecifier l fs zero = Binds Import
role_at r ExportNamedDeclaration l fs (suc zero) = if third_stands fs then Nothing else reads
role_at r ExportSpecifier l fs zero = r
role_at r ForInStatement l fs zero = refers false true
role_at r ForOfStatement l fs zero = refers false true
role_at r AssignmentExpression l fs zero = target_of (first_text l.texts)
role_at r UpdateExpression l fs zero = refers true true
role_at r ParenthesizedExpression l fs zero = r
role_at r ObjectPattern l fs zero = r
role_at r PatternProperty l fs (suc zero) = r
role_at r ArrayPattern l fs n = r
role_at r AssignmentPattern l fs zero = r
role_at r RestElement l fs zero = r
role_at r ObjectTarget l fs zero = r
role_at r TargetProperty l fs (suc zero) = r
role_at r ArrayTarget l fs n = r
role_at r TargetWithDefault l fs zero = r
role_at r TargetRest l fs zero = r
role_at r k l fs n = if is_name_place k l n then reads else Nothing
