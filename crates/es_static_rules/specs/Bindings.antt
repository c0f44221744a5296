-- The names that a node declares, as the code gathers them.
use Rattle.std.specs.Prelude.{◌≡◌, ℕ, zero, suc, List, [], ◌∷◌, ◌++◌, map, true, false, Option, Some, None}
use Rattle.es_tree.specs.Ancestors.{Ancestor}
use Rattle.es_tree.specs.DeclaredNames.{Name, name, slots}
use Rattle.es_tree.specs.Words.{Text}
use Rattle.es_tree.specs.declared.ast_type.AstType.{AstType}
use Rattle.es_tree.specs.declared.ast_type.AstType.TheVariants.{
  VariableDeclarator,
  FunctionDeclaration,
  FunctionExpression,
  ArrowFunctionExpression,
  ClassDeclaration,
  CatchClause,
  ImportSpecifier,
  ImportDefaultSpecifier,
  ImportNamespaceSpecifier,
  ObjectPattern,
  PatternProperty,
  ArrayPattern,
  AssignmentPattern,
  RestElement,
}
use Rattle.es_tree.specs.declared.place.Namespace.{Namespace}
use Rattle.es_tree.specs.declared.place.Namespace.TheVariants.{PrivateNames}
use Rattle.es_static_rules.specs.declared.names.Name.{Name as HeldName}
use Rattle.es_static_rules.specs.declared.names.Binding.{Binding}
use Rattle.es_static_rules.specs.declared.names.Binding.TheVariants.{Pattern, Declarator, Function, Parameter, Class, Catch, Import, Nothing}

abbrev pub plain_name : HeldName → Name
plain_name n = name n.namespace n.owner n.text.now n.lexical

-- These names are added at the end.
abbrev pub Adds : List HeldName → List HeldName → List Name → Type 0
Adds old new ns = map plain_name new ≡ map plain_name old ++ ns

-- what an identifier in the first field of a node of this kind binds
abbrev pub first_binding : AstType → Binding
first_binding ObjectPattern = Pattern
first_binding ArrayPattern = Pattern
first_binding AssignmentPattern = Pattern
first_binding RestElement = Pattern
first_binding VariableDeclarator = Declarator
first_binding FunctionDeclaration = Function
first_binding ArrowFunctionExpression = Parameter
first_binding ClassDeclaration = Class
first_binding CatchClause = Catch
first_binding ImportDefaultSpecifier = Import
first_binding ImportNamespaceSpecifier = Import
first_binding _ = Nothing

abbrev pub second_binding : AstType → Binding
second_binding ArrayPattern = Pattern
second_binding PatternProperty = Pattern
second_binding FunctionDeclaration = Parameter
second_binding FunctionExpression = Parameter
second_binding ImportSpecifier = Import
second_binding _ = Nothing

abbrev pub later_binding : AstType → Binding
later_binding ArrayPattern = Pattern
later_binding _ = Nothing

-- what one in this field binds; the fields of a node count from 0
abbrev pub binding_of : AstType → ℕ → Binding
binding_of k zero = first_binding k
binding_of k (suc zero) = second_binding k
binding_of k (suc (suc n)) = later_binding k

-- the number of the innermost of these scopes
abbrev pub first_scope : List ℕ → Option ℕ
first_scope [] = None
first_scope (n ∷ ns) = Some n

-- a private name of the class with this number, in these slots
abbrev pub slot_names : List Namespace → ℕ → Text → List Name
slot_names ss n x = map (λ s. name s n x true) ss

-- the private name of a member of the class around, in each slot of it
abbrev pub class_names : Ancestor → List Ancestor → Text → List Name
class_names a [] x = []
class_names a (c ∷ up) x = name PrivateNames c.number x false ∷ slot_names (slots a) c.number x
