-- `using` at the top of a function's body or of a static block (Explicit Resource Management, 14.3.1): `function f() { using a = b; return a; }` becomes
-- `function f() { try { var _usingCtx = babelHelpers.usingCtx(); const a = _usingCtx.u(b); return a; } catch (_) { _usingCtx.e = _; } finally { _usingCtx.d(); } }`.
-- A function at the top of the body is bound there as by `var` (10.2.11), and afterwards by the block alone (14.2.3).
use Rattle.std.specs.Prelude.{◌≡◌, ◌&&◌, ℕ, Bool, true, false, List, [], ◌∷◌, Option}
use Rattle.std.specs.List.{list_all}
use Rattle.es_resolution.specs.Declarations.{Bound, symbol_of, declared_among}
use Rattle.es_resolution.specs.Resolved.{Place, place_in}
use Rattle.es_semantic.specs.RolesOf.{reads, role_at}
use Rattle.es_semantic.specs.declared.place.Binding.TheVariants.{Parameter}
use Rattle.es_semantic.specs.declared.place.Role.{Role}
use Rattle.es_semantic.specs.declared.place.Role.TheVariants.{Binds, Top}
use Rattle.es_steps.specs.Nodes.{joined_trees}
use Rattle.es_steps.specs.Open.{Pending, Additions}
use Rattle.es_steps.specs.ParameterPatterns.{body_fields, IsFunctionName}
use Rattle.es_steps.specs.Patterns.{no_name_of}
use Rattle.es_steps.specs.Rules.{next_name}
use Rattle.es_steps.specs.Steps.{Whole, Ledger, ledger, Site, Spot, at_node}
use Rattle.es_steps.specs.UsingBlocks.{Constants, TakesContext, error_of, has_using, protected, with_context}
use Rattle.es_tree.specs.Names.{first_text}
use Rattle.es_tree.specs.Tree.{Tree, node, Label, Fields, done, ◌then◌, Field, one, many, statements, Trees, empty, ◌before◌}
use Rattle.es_tree.specs.Words.{Text}
use Rattle.es_tree.specs.declared.ast_type.AstType.{AstType}
use Rattle.es_tree.specs.declared.ast_type.AstType.TheVariants.{
  ArrayPattern,
  ArrayTarget,
  ArrowFunctionExpression,
  AssignmentPattern,
  ClassDeclaration,
  ClassExpression,
  Directive,
  ExportDefaultDeclaration,
  ExportNamedDeclaration,
  ExportSpecifier,
  FunctionBody,
  FunctionDeclaration,
  FunctionExpression,
  Identifier,
  ObjectPattern,
  ObjectTarget,
  ParenthesizedExpression,
  PatternProperty,
  RestElement,
  StaticBlock,
  TargetProperty,
  TargetRest,
  TargetWithDefault,
  VariableDeclarator,
}

pub data Directives : Trees → Type 0 where
  no_directive : Directives empty
  directive : {l : Label} {ts : Trees} → Directives ts → Directives (node Directive l done before ts)

-- whether a statement is none of those whose parts are bound as by `var` at the top of a body: functions, and what hands on where
-- it stands
abbrev pub is_as_in_block : AstType → Bool
is_as_in_block FunctionDeclaration = false
is_as_in_block ExportNamedDeclaration = false
is_as_in_block ExportDefaultDeclaration = false
is_as_in_block VariableDeclarator = false
is_as_in_block ExportSpecifier = false
is_as_in_block ParenthesizedExpression = false
is_as_in_block ObjectPattern = false
is_as_in_block PatternProperty = false
is_as_in_block ArrayPattern = false
is_as_in_block AssignmentPattern = false
is_as_in_block RestElement = false
is_as_in_block ObjectTarget = false
is_as_in_block TargetProperty = false
is_as_in_block ArrayTarget = false
is_as_in_block TargetWithDefault = false
is_as_in_block TargetRest = false
is_as_in_block k = true

abbrev pub bound_as : Label → Bound
bound_as m = record { name = first_text m.texts; symbol = symbol_of m }

-- the names of the functions among these statements
pub data TopFunctions : Trees → List Bound → Type 0 where
  no_function : TopFunctions empty []
  function : {l m : Label} {ps ts : Trees} {b : Tree} {fs : List Bound} → TopFunctions ts fs → TopFunctions (node FunctionDeclaration l (one (node Identifier m done) then many ps then one b then done) before ts) (bound_as m ∷ fs)
  other : {k : AstType} {l : Label} {gs : Fields} {ts : Trees} {fs : List Bound} → is_as_in_block k ≡ true → TopFunctions ts fs → TopFunctions (node k l gs before ts) fs

-- no two of these have one name
abbrev pub each_once : List Bound → Bool
each_once [] = true
each_once (b ∷ bs) = no_name_of bs b && each_once bs

-- WHEN FUNCTIONS AT THE TOP may become those of a block, as far as look-up and declared names go, beside these parameters
pub record MayEnter (ps fs : List Bound) (ts : Trees) : Type 0 where
  pub functions : TopFunctions ts fs
  -- no parameter has the name of one, and no `var`
  pub parameters : list_all (no_name_of fs) ps ≡ true
  pub vars : list_all (no_name_of fs) (declared_among true reads ts) ≡ true
  -- none of them and no `var` has a name that the body declares otherwise (15.2.1)
  pub lexical : list_all (no_name_of (declared_among false Top ts)) (declared_among true Top ts) ≡ true
  -- at the top of a body a function may be declared twice, as by `var`, and in a block once (14.2.1)
  pub once : each_once fs ≡ true

abbrev pub parameters_of : Trees → List Bound
parameters_of ps = declared_among false (Binds Parameter) ps

abbrev pub body : Label → Trees → Trees → Tree
body l ds ts = node FunctionBody l (body_fields ds ts)

-- the place of a body's statements
abbrev pub in_body : Place → Label → Trees → Trees → Place
in_body p l ds ts = place_in p FunctionBody l (role_at reads FunctionBody l (body_fields ds ts)) (body_fields ds ts) 1

-- in the body of a function of this kind, whose fields these are
abbrev pub in_function : Site → AstType → Label → Fields → ℕ → Label → Trees → Trees → Place
in_function n k m fs i l ds ts = in_body (place_in n.names k m (role_at n.role k m fs) fs i) l ds ts

abbrev pub function_fields : Field → Trees → Tree → Fields
function_fields f ps b = f then many ps then one b then done

abbrev pub arrow_fields : Trees → Tree → Fields
arrow_fields ps b = many ps then one b then done

abbrev pub static_block : Label → Trees → Tree
static_block l ts = node StaticBlock l (statements ts then done)

-- a class with these members
abbrev pub class_fields : Field → Field → Trees → Fields
class_fields f g ms = f then g then many ms then done

pub data IsClass : AstType → Type 0 where
  class_declaration : IsClass ClassDeclaration
  class_expression : IsClass ClassExpression

-- the place of the statements of a static block, and that of the members of a class
abbrev pub in_static_block : Place → Role → Label → Trees → Place
in_static_block p r l ts = place_in p StaticBlock l (role_at r StaticBlock l (statements ts then done)) (statements ts then done) 0

abbrev pub members_role : Site → AstType → Label → Fields → Role
members_role n k m fs = role_at n.role k m fs 2

abbrev pub in_members : Site → AstType → Label → Fields → Place
in_members n k m fs = place_in n.names k m (role_at n.role k m fs) fs 2

pub data BodyUsing : Site → Ledger → Spot → Ledger → Spot → Type 0 where
  of_declaration : {n : Site} {w : Whole} {q : Pending} {y : Option Bound} {a : Additions} {m l : Label} {f : Field} {ps ds ts us : Trees} {fs : List Bound} {c : Text} → IsFunctionName f → Directives ds → has_using ts ≡ true → MayEnter (parameters_of ps) fs ts →
      TakesContext w c (in_function n FunctionDeclaration m (function_fields f ps (body l ds ts)) 2 l ds ts) → Constants (next_name w c) ts us →
      BodyUsing n (ledger w q y a) (at_node (node FunctionDeclaration m (function_fields f ps (body l ds ts)))) (ledger (with_context c w) q y a)
      (at_node (node FunctionDeclaration m (function_fields f ps (body l ds (protected (next_name w c) (error_of w) us before empty)))))
  of_expression : {n : Site} {w : Whole} {q : Pending} {y : Option Bound} {a : Additions} {m l : Label} {f : Field} {ps ds ts us : Trees} {fs : List Bound} {c : Text} → IsFunctionName f → Directives ds → has_using ts ≡ true → MayEnter (parameters_of ps) fs ts →
      TakesContext w c (in_function n FunctionExpression m (function_fields f ps (body l ds ts)) 2 l ds ts) → Constants (next_name w c) ts us →
      BodyUsing n (ledger w q y a) (at_node (node FunctionExpression m (function_fields f ps (body l ds ts)))) (ledger (with_context c w) q y a)
      (at_node (node FunctionExpression m (function_fields f ps (body l ds (protected (next_name w c) (error_of w) us before empty)))))
  of_arrow : {n : Site} {w : Whole} {q : Pending} {y : Option Bound} {a : Additions} {m l : Label} {ps ds ts us : Trees} {fs : List Bound} {c : Text} → Directives ds → has_using ts ≡ true → MayEnter (parameters_of ps) fs ts →
      TakesContext w c (in_function n ArrowFunctionExpression m (arrow_fields ps (body l ds ts)) 1 l ds ts) → Constants (next_name w c) ts us →
      BodyUsing n (ledger w q y a) (at_node (node ArrowFunctionExpression m (arrow_fields ps (body l ds ts)))) (ledger (with_context c w) q y a)
      (at_node (node ArrowFunctionExpression m (arrow_fields ps (body l ds (protected (next_name w c) (error_of w) us before empty)))))
  of_static_block : {n : Site} {w : Whole} {q : Pending} {y : Option Bound} {a : Additions} {k : AstType} {m : Label} {f g : Field} {fs : List Bound} {c : Text} (l : Label) (xs zs ts us : Trees) → IsClass k → has_using ts ≡ true → MayEnter [] fs ts →
      TakesContext w c (in_static_block (in_members n k m (class_fields f g (joined_trees xs (static_block l ts before zs)))) (members_role n k m (class_fields f g (joined_trees xs (static_block l ts before zs)))) l ts) → Constants (next_name w c) ts us →
      BodyUsing n (ledger w q y a) (at_node (node k m (class_fields f g (joined_trees xs (static_block l ts before zs))))) (ledger (with_context c w) q y a)
      (at_node (node k m (class_fields f g (joined_trees xs (static_block l (protected (next_name w c) (error_of w) us before empty) before zs)))))
