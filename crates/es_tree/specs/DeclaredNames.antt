-- The names that each node of a program declares, for the static rules (ECMA-262, 8.2): what scopes bind, what a module
-- exports, and the private names and constructors of classes.
use Rattle.std.specs.Prelude.{ℕ, ◌==◌, List, [], ◌∷◌, ◌++◌, map, Bool, true, false, not, ◌&&◌, ◌||◌, bytes_eq, codes, if◌then◌else◌}
use Rattle.std.specs.List.{list_any}
use Rattle.es_tree.specs.Ancestors.{Ancestor, is_module, leads_by, scopes, stands_in}
use Rattle.es_tree.specs.Children.{child_at}
use Rattle.es_tree.specs.CoreStaticRules.{is_lexical, is_name}
use Rattle.es_tree.specs.HasForm.{same_type}
use Rattle.es_tree.specs.Names.{first_text, flag_at}
use Rattle.es_tree.specs.Tree.{Tree, node}
use Rattle.es_tree.specs.Words.{Text}
use Rattle.es_tree.specs.declared.ast_type.AstType.TheVariants.{
  Program,
  StaticBlock,
  VariableDeclaration,
  VariableDeclarator,
  FunctionDeclaration,
  FunctionExpression,
  FunctionBody,
  ArrowFunctionExpression,
  ClassDeclaration,
  MethodDefinition,
  PropertyDefinition,
  CatchClause,
  ImportSpecifier,
  ImportDefaultSpecifier,
  ImportNamespaceSpecifier,
  ExportNamedDeclaration,
  ExportSpecifier,
  ExportDefaultDeclaration,
  ExportAllDeclaration,
  Identifier,
  PrivateIdentifier,
  StringLiteral,
  ObjectPattern,
  PatternProperty,
  ArrayPattern,
  AssignmentPattern,
  RestElement,
}
use Rattle.es_tree.specs.declared.place.Namespace.{Namespace}
use Rattle.es_tree.specs.declared.place.Namespace.TheVariants.{Scope, Parameters, Exports, PrivateNames, FirstSlot, SecondSlot, ThirdSlot, FourthSlot, Constructors}

-- A declared name: the namespace in which it is told apart, the number of the node whose namespace that is, and whether a
-- second declaration of it clashes with this one, whatever it is.
pub record Name : Type 0 where
  pub namespace : Namespace
  pub owner : ℕ
  pub text : Text
  pub lexical : Bool

abbrev pub name : Namespace → ℕ → Text → Bool → Name
name s n x lexical = record { namespace = s; owner = n; text = x; lexical = lexical }

abbrev pub namespace_number : Namespace → ℕ
namespace_number Scope = 0
namespace_number Parameters = 1
namespace_number Exports = 2
namespace_number PrivateNames = 3
namespace_number FirstSlot = 4
namespace_number SecondSlot = 5
namespace_number ThirdSlot = 6
namespace_number FourthSlot = 7
namespace_number Constructors = 8

-- whether a declared name is this one
abbrev pub is_same_name : Namespace → ℕ → Text → Name → Bool
is_same_name s n x e = namespace_number e.namespace == namespace_number s && e.owner == n && bytes_eq e.text x

-- whether this name is among the declared ones
abbrev pub is_declared : List Name → Namespace → ℕ → Text → Bool
is_declared es s n x = list_any (is_same_name s n x) es

-- whether an earlier name is the same, and one of the two lexical
abbrev pub clashes : List Name → Name → Bool
clashes earlier n = list_any (λ e. is_same_name n.namespace n.owner n.text e && (e.lexical || n.lexical)) earlier

-- WHAT SCOPES BIND

-- a `var` is declared in each scope through which it hoists (14.3.2, 8.2.6)
abbrev pub var_names : List Ancestor → Text → List Name
var_names up x = map (λ n. name Scope n x false) (scopes up)

-- `let`, `const`, `using`, a class and an import in the innermost one (8.2.4)
abbrev pub names_in_scope : List ℕ → Text → Bool → List Name
names_in_scope [] x lexical = []
names_in_scope (n ∷ ns) x lexical = name Scope n x lexical ∷ []

abbrev pub lexical_names : List Ancestor → Text → List Name
lexical_names up x = names_in_scope (scopes up) x true

-- whether this is at the top of a function's body, of a static block or of a script, where a function is declared like a
-- `var` (8.2.8, 8.2.10)
abbrev pub is_at_top : List Ancestor → Bool
is_at_top up = stands_in FunctionBody 1 up || stands_in StaticBlock 0 up || (stands_in Program 1 up && not (is_module up))

abbrev pub function_names : List Ancestor → Text → List Name
function_names up x = names_in_scope (scopes up) x (not (is_at_top up))

-- a parameter's name may stand once among the parameters, and none that the body's top declares lexically is equal (15.1.1,
-- 15.2.1)
abbrev pub parameter_names : ℕ → Text → List Name
parameter_names n x = name Parameters n x true ∷ name Scope n x false ∷ []

-- no `var` in the body of a catch clause is equal to a name of its pattern; of a plain parameter one may be (14.15.1, B.3.4)
abbrev pub catch_names : Ancestor → Text → List Name
catch_names a x = name Scope a.number x (not (is_name (child_at 0 a.fields))) ∷ []

-- WHAT A MODULE EXPORTS (16.2.3.1)

abbrev pub export_name : Text → List Name
export_name x = name Exports 0 x true ∷ []

-- what a declaration that stands here exports, where it declares this name
abbrev pub exports_of : List Ancestor → Text → List Name
exports_of up x = if stands_in ExportNamedDeclaration 0 up then export_name x else []

-- BINDING IDENTIFIERS (8.2.1)

abbrev pub declaration_names : List Ancestor → Text → List Name
declaration_names [] x = []
declaration_names (d ∷ up) x =
    if same_type d.kind VariableDeclaration then (if is_lexical (first_text d.label.texts) then lexical_names up x else var_names up x) ++ exports_of up x else []

-- what an identifier of this text that stands here declares, in a pattern or not
abbrev pub bound_names : List Ancestor → Text → List Name
bound_names [] x = []
bound_names (a ∷ up) x =
    if leads_by ObjectPattern 0 a || same_type a.kind ArrayPattern || leads_by PatternProperty 1 a || leads_by AssignmentPattern 0 a || leads_by RestElement 0 a then bound_names up x
    else if leads_by VariableDeclarator 0 a then declaration_names up x
    else if leads_by FunctionDeclaration 0 a then function_names up x ++ exports_of up x
    else if leads_by FunctionDeclaration 1 a || leads_by FunctionExpression 1 a || leads_by ArrowFunctionExpression 0 a then parameter_names a.number x
    else if leads_by ClassDeclaration 0 a then lexical_names up x ++ exports_of up x
    else if leads_by CatchClause 0 a then catch_names a x
    else if leads_by ImportSpecifier 1 a || leads_by ImportDefaultSpecifier 0 a || leads_by ImportNamespaceSpecifier 0 a then lexical_names up x
    else []

-- the name or string by which an export is known outside
abbrev pub exported_names : List Ancestor → Text → List Name
exported_names up x = if stands_in ExportSpecifier 1 up || stands_in ExportAllDeclaration 0 up then export_name x else []

-- CLASSES (15.7.1)

-- A private name may be declared once, or once by a getter and once by a setter that are both static or both not. So that
-- two declarations clash exactly where they have a slot in common, each has slots by what it is.
abbrev pub accessor_slots : Text → Bool → List Namespace
accessor_slots word is_static =
    if bytes_eq word (codes "get") then FirstSlot ∷ (if is_static then SecondSlot else ThirdSlot) ∷ []
    else if bytes_eq word (codes "set") then (if is_static then ThirdSlot else SecondSlot) ∷ FourthSlot ∷ []
    else FirstSlot ∷ SecondSlot ∷ ThirdSlot ∷ FourthSlot ∷ []

abbrev pub slots : Ancestor → List Namespace
slots a = accessor_slots (if same_type a.kind MethodDefinition then first_text a.label.texts else []) (flag_at 0 a.label.flags)

-- whether the key of a class's method or field stands here
abbrev pub is_class_key : List Ancestor → Bool
is_class_key up = stands_in MethodDefinition 0 up || stands_in PropertyDefinition 0 up

abbrev pub private_names : List Ancestor → Text → List Name
private_names (a ∷ (c ∷ up)) x =
    if is_class_key (a ∷ up) then name PrivateNames c.number x false ∷ map (λ s. name s c.number x true) (slots a) else []
private_names _ x = []

-- a class has one constructor at most
abbrev pub constructor_names : List Ancestor → Text → List Name
constructor_names [] word = []
constructor_names (c ∷ up) word = if bytes_eq word (codes "constructor") then name Constructors c.number [] true ∷ [] else []

-- WHAT A NODE DECLARES

abbrev pub declared : List Ancestor → Tree → List Name
declared up (node Identifier l fs) = bound_names up (first_text l.texts) ++ exported_names up (first_text l.texts)
declared up (node StringLiteral l fs) = exported_names up (first_text l.texts)
declared up (node PrivateIdentifier l fs) = private_names up (first_text l.texts)
declared up (node MethodDefinition l fs) = constructor_names up (first_text l.texts)
declared up (node ExportDefaultDeclaration l fs) = export_name (codes "default")
declared up _ = []
