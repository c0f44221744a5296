-- The fields of a node that hold names which are read, or none.
use Rattle.std.proofs.Common.{◌≡◌, Bool, Option, if◌then◌else◌, refl}
use Rattle.es_tree.specs.Heads.{head_of}
use Rattle.es_tree.specs.Names.{is_name_place}
use Rattle.es_tree.specs.Tree.{Fields, Label}
use Rattle.es_tree.specs.declared.ids.ScopeId.{ScopeId}
use Rattle.es_tree.specs.declared.kind.Kind.{Kind}
use Rattle.es_tree.specs.declared.kind.Kind.TheVariants.{
  Program,
  StaticBlock,
  VariableDeclaration,
  VariableDeclarator,
  FunctionDeclaration,
  FunctionExpression,
  FunctionBody,
  ArrowFunctionExpression,
  ClassDeclaration,
  ClassExpression,
  MethodDefinition,
  ForInStatement,
  ForOfStatement,
  CatchClause,
  ImportSpecifier,
  ImportDefaultSpecifier,
  ImportNamespaceSpecifier,
  ExportNamedDeclaration,
  ExportSpecifier,
  ExportDefaultDeclaration,
  UpdateExpression,
  AssignmentExpression,
  ParenthesizedExpression,
  ObjectPattern,
  PatternProperty,
  ArrayPattern,
  AssignmentPattern,
  RestElement,
  ObjectTarget,
  TargetProperty,
  ArrayTarget,
  TargetWithDefault,
  TargetRest,
}
use Rattle.es_tree.specs.declared.operators.AssignmentOperator.{AssignmentOperator}
use Rattle.es_tree.specs.declared.operators.MethodDefinitionKind.{MethodDefinitionKind}
use Rattle.es_tree.specs.declared.operators.SourceType.{SourceType}
use Rattle.es_tree.specs.declared.operators.UpdateOperator.{UpdateOperator}
use Rattle.es_tree.specs.declared.operators.VariableDeclarationKind.{VariableDeclarationKind}
use Rattle.es_semantic.specs.RolesOf.{reads, role_at}
use Rattle.es_semantic.specs.declared.place.Role.{Role}
use Rattle.es_semantic.specs.declared.place.Role.TheVariants.{Nothing}

-- THE FIRST FIELD

-- the kinds whose first field is no plain place of a name
pub record IsPlainFirst (k : Kind) : Type 0 where
  pub static_block : (x : Option ScopeId) → k ≡ StaticBlock x → ⊥
  pub declaration : (x : VariableDeclarationKind) → k ≡ VariableDeclaration x → ⊥
  pub declarator : k ≡ VariableDeclarator → ⊥
  pub function_declaration : (x : Option ScopeId) → k ≡ FunctionDeclaration x → ⊥
  pub function_expression : (x : Option ScopeId) → k ≡ FunctionExpression x → ⊥
  pub arrow : (x : Option ScopeId) → k ≡ ArrowFunctionExpression x → ⊥
  pub class_declaration : (x : Option ScopeId) → k ≡ ClassDeclaration x → ⊥
  pub class_expression : (x : Option ScopeId) → k ≡ ClassExpression x → ⊥
  pub for_in : (x : Option ScopeId) → k ≡ ForInStatement x → ⊥
  pub for_of : (x : Option ScopeId) → k ≡ ForOfStatement x → ⊥
  pub catch_clause : (x : Option ScopeId) → k ≡ CatchClause x → ⊥
  pub import_default : k ≡ ImportDefaultSpecifier → ⊥
  pub import_namespace : k ≡ ImportNamespaceSpecifier → ⊥
  pub export_named : k ≡ ExportNamedDeclaration → ⊥
  pub export_specifier : k ≡ ExportSpecifier → ⊥
  pub export_default : k ≡ ExportDefaultDeclaration → ⊥
  pub update : (x : UpdateOperator) (p : Bool) → k ≡ UpdateExpression x p → ⊥
  pub assignment : (x : AssignmentOperator) → k ≡ AssignmentExpression x → ⊥
  pub parentheses : k ≡ ParenthesizedExpression → ⊥
  pub object_pattern : k ≡ ObjectPattern → ⊥
  pub array_pattern : k ≡ ArrayPattern → ⊥
  pub assignment_pattern : k ≡ AssignmentPattern → ⊥
  pub rest_element : k ≡ RestElement → ⊥
  pub object_target : k ≡ ObjectTarget → ⊥
  pub array_target : k ≡ ArrayTarget → ⊥
  pub target_default : k ≡ TargetWithDefault → ⊥
  pub target_rest : k ≡ TargetRest → ⊥

pub first_plain : (r : Role) (k : Kind) (l : Label) (fs : Fields) → IsPlainFirst k →
    role_at r (head_of k).kind l fs 0 ≡ (if is_name_place (head_of k).kind l 0 then reads else Nothing)
first_plain r (StaticBlock x) l fs h = absurd (h.static_block x refl)
first_plain r (VariableDeclaration x) l fs h = absurd (h.declaration x refl)
first_plain r VariableDeclarator l fs h = absurd (h.declarator refl)
first_plain r (FunctionDeclaration x) l fs h = absurd (h.function_declaration x refl)
first_plain r (FunctionExpression x) l fs h = absurd (h.function_expression x refl)
first_plain r (ArrowFunctionExpression x) l fs h = absurd (h.arrow x refl)
first_plain r (ClassDeclaration x) l fs h = absurd (h.class_declaration x refl)
first_plain r (ClassExpression x) l fs h = absurd (h.class_expression x refl)
first_plain r (ForInStatement x) l fs h = absurd (h.for_in x refl)
first_plain r (ForOfStatement x) l fs h = absurd (h.for_of x refl)
first_plain r (CatchClause x) l fs h = absurd (h.catch_clause x refl)
first_plain r ImportDefaultSpecifier l fs h = absurd (h.import_default refl)
first_plain r ImportNamespaceSpecifier l fs h = absurd (h.import_namespace refl)
first_plain r ExportNamedDeclaration l fs h = absurd (h.export_named refl)
first_plain r ExportSpecifier l fs h = absurd (h.export_specifier refl)
first_plain r ExportDefaultDeclaration l fs h = absurd (h.export_default refl)
first_plain r (UpdateExpression x p) l fs h = absurd (h.update x p refl)
first_plain r (AssignmentExpression x) l fs h = absurd (h.assignment x refl)
first_plain r ParenthesizedExpression l fs h = absurd (h.parentheses refl)
first_plain r ObjectPattern l fs h = absurd (h.object_pattern refl)
first_plain r ArrayPattern l fs h = absurd (h.array_pattern refl)
first_plain r AssignmentPattern l fs h = absurd (h.assignment_pattern refl)
first_plain r RestElement l fs h = absurd (h.rest_element refl)
first_plain r ObjectTarget l fs h = absurd (h.object_target refl)
first_plain r ArrayTarget l fs h = absurd (h.array_target refl)
first_plain r TargetWithDefault l fs h = absurd (h.target_default refl)
first_plain r TargetRest l fs h = absurd (h.target_rest refl)
first_plain r _ l fs h = refl

-- THE SECOND FIELD

pub record IsPlainSecond (k : Kind) : Type 0 where
  pub program : (x : SourceType) (s : Option ScopeId) → k ≡ Program x s → ⊥
  pub function_declaration : (x : Option ScopeId) → k ≡ FunctionDeclaration x → ⊥
  pub function_expression : (x : Option ScopeId) → k ≡ FunctionExpression x → ⊥
  pub function_body : (x : Option ScopeId) → k ≡ FunctionBody x → ⊥
  pub method : (x : MethodDefinitionKind) (s c : Bool) → k ≡ MethodDefinition x s c → ⊥
  pub import_specifier : k ≡ ImportSpecifier → ⊥
  pub export_named : k ≡ ExportNamedDeclaration → ⊥
  pub pattern_property : (s c : Bool) → k ≡ PatternProperty s c → ⊥
  pub target_property : (s c : Bool) → k ≡ TargetProperty s c → ⊥
  pub array_pattern : k ≡ ArrayPattern → ⊥
  pub array_target : k ≡ ArrayTarget → ⊥

pub second_plain : (r : Role) (k : Kind) (l : Label) (fs : Fields) → IsPlainSecond k →
    role_at r (head_of k).kind l fs 1 ≡ (if is_name_place (head_of k).kind l 1 then reads else Nothing)
second_plain r (Program x s) l fs h = absurd (h.program x s refl)
second_plain r (FunctionDeclaration x) l fs h = absurd (h.function_declaration x refl)
second_plain r (FunctionExpression x) l fs h = absurd (h.function_expression x refl)
second_plain r (FunctionBody x) l fs h = absurd (h.function_body x refl)
second_plain r (MethodDefinition x s c) l fs h = absurd (h.method x s c refl)
second_plain r ImportSpecifier l fs h = absurd (h.import_specifier refl)
second_plain r ExportNamedDeclaration l fs h = absurd (h.export_named refl)
second_plain r (PatternProperty s c) l fs h = absurd (h.pattern_property s c refl)
second_plain r (TargetProperty s c) l fs h = absurd (h.target_property s c refl)
second_plain r ArrayPattern l fs h = absurd (h.array_pattern refl)
second_plain r ArrayTarget l fs h = absurd (h.array_target refl)
second_plain r _ l fs h = refl
