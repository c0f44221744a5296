-- The roles in a node are none of a function expression's name, but for that of the name itself.
use Rattle.std.proofs.Common.{◌≡◌, ℕ, zero, suc, refl}
use Rattle.std.specs.Prelude.{Bool, true, false, if◌then◌else◌, bytes_eq, codes}
use Rattle.es_tree.specs.Names.{first_text, is_name_place, third_stands}
use Rattle.es_tree.specs.Tree.{Label, Fields}
use Rattle.es_tree.specs.Words.{Text}
use Rattle.es_tree.specs.declared.ast_type.AstType.{AstType}
use Rattle.es_tree.specs.declared.ast_type.AstType.TheVariants.{
  Program,
  BlockStatement,
  StaticBlock,
  VariableDeclaration,
  VariableDeclarator,
  FunctionDeclaration,
  FunctionExpression,
  FunctionBody,
  ArrowFunctionExpression,
  ClassDeclaration,
  ClassExpression,
  MethodDefinition,
  ForStatement,
  ForInStatement,
  ForOfStatement,
  SwitchStatement,
  CatchClause,
  ImportSpecifier,
  ImportDefaultSpecifier,
  ImportNamespaceSpecifier,
  ExportNamedDeclaration,
  ExportDefaultDeclaration,
  ExportSpecifier,
  AssignmentExpression,
  UpdateExpression,
  ParenthesizedExpression,
  ObjectPattern,
  PatternProperty,
  ArrayPattern,
  AssignmentPattern,
  RestElement,
  ObjectTarget,
  TargetProperty,
  ArrayTarget,
  TargetWithDefault,
  TargetRest,
}
use Rattle.es_semantic.specs.Places.{is_inside, makes_scope}
use Rattle.es_semantic.specs.RolesOf.{function_binding, member_role, reads, role_at}
use Rattle.es_semantic.specs.declared.place.Binding.TheVariants.{Variable, Let, Constant, FunctionName}
use Rattle.es_semantic.specs.declared.place.Role.{Role}
use Rattle.es_semantic.specs.declared.place.Role.TheVariants.{Nothing, Binds, Top, Member, Constructor}

-- no name of a function expression, where declarations other than `var` are asked for
abbrev pub IsOther : Bool → Role → Type 0
IsOther true r = Unit {0}
IsOther false (Binds FunctionName) = ⊥
IsOther false _ = Unit {0}

-- where the name of a function expression stands
abbrev pub is_name_of : AstType → ℕ → Bool
is_name_of FunctionExpression zero = true
is_name_of k i = false

other-place : (b : Bool) → IsOther false (if b then reads else Nothing)
other-place true = tt
other-place false = tt

other-export : (b : Bool) → IsOther false (if b then Nothing else reads)
other-export true = tt
other-export false = tt

other-word : (a b : Bool) → IsOther false (Binds (if a then Variable else if b then Let else Constant))
other-word true b = tt
other-word false true = tt
other-word false false = tt

other-function : (r : Role) → IsOther false (Binds (function_binding r))
other-function Top = tt
other-function _ = tt

other-constructor : (b derived : Bool) → IsOther false (if b then Constructor derived else Nothing)
other-constructor true derived = tt
other-constructor false derived = tt

other-member : (word : Text) (r : Role) → IsOther false (member_role word r)
other-member word (Member derived) = other-constructor (bytes_eq word (codes "constructor")) derived
other-member word _ = tt

-- a field that isn't given a role of its own
other-rest : (k : AstType) (l : Label) (i : ℕ) → IsOther false (if is_name_place k l i then reads else Nothing)
other-rest k l i = other-place (is_name_place k l i)

pub role-other : (v : Bool) (r : Role) (k : AstType) (l : Label) (fs : Fields) (i : ℕ) → IsOther v r → is_name_of k i ≡ false → IsOther v (role_at r k l fs i)
role-other true r k l fs i o e = tt
role-other false r Program l fs (suc zero) o e = tt
role-other false r FunctionBody l fs (suc zero) o e = tt
role-other false r StaticBlock l fs zero o e = tt
role-other false r ExportNamedDeclaration l fs zero o e = o
role-other false r ExportDefaultDeclaration l fs zero o e = o
role-other false r VariableDeclaration l fs zero o e = other-word (bytes_eq (first_text l.texts) (codes "var")) (bytes_eq (first_text l.texts) (codes "let"))
role-other false r VariableDeclarator l fs zero o e = o
role-other false r FunctionDeclaration l fs zero o e = other-function r
role-other false r FunctionDeclaration l fs (suc zero) o e = tt
role-other false r FunctionExpression l fs zero o e = absurd (cc e)
role-other false r FunctionExpression l fs (suc zero) o e = tt
role-other false r ArrowFunctionExpression l fs zero o e = tt
role-other false r ClassDeclaration l fs zero o e = tt
role-other false r ClassDeclaration l fs (suc (suc zero)) o e = tt
role-other false r ClassExpression l fs zero o e = tt
role-other false r ClassExpression l fs (suc (suc zero)) o e = tt
role-other false r MethodDefinition l fs (suc zero) o e = other-member (first_text l.texts) r
role-other false r CatchClause l fs zero o e = tt
role-other false r ImportSpecifier l fs (suc zero) o e = tt
role-other false r ImportDefaultSpecifier l fs zero o e = tt
role-other false r ImportNamespaceSpecifier l fs zero o e = tt
role-other false r ExportNamedDeclaration l fs (suc zero) o e = other-export (third_stands fs)
role-other false r ExportSpecifier l fs zero o e = o
role-other false r ForInStatement l fs zero o e = tt
role-other false r ForOfStatement l fs zero o e = tt
role-other false r AssignmentExpression l fs zero o e = tt
role-other false r UpdateExpression l fs zero o e = tt
role-other false r ParenthesizedExpression l fs zero o e = o
role-other false r ObjectPattern l fs zero o e = o
role-other false r PatternProperty l fs (suc zero) o e = o
role-other false r ArrayPattern l fs i o e = o
role-other false r AssignmentPattern l fs zero o e = o
role-other false r RestElement l fs zero o e = o
role-other false r ObjectTarget l fs zero o e = o
role-other false r TargetProperty l fs (suc zero) o e = o
role-other false r ArrayTarget l fs i o e = o
role-other false r TargetWithDefault l fs zero o e = o
role-other false r TargetRest l fs zero o e = o
role-other false r k l fs i o e = other-rest k l i

inside-name : (k : AstType) (i : ℕ) → is_inside k i ≡ true → is_name_of k i ≡ false
inside-name FunctionExpression zero e = absurd (cc e)
inside-name FunctionExpression (suc i) e = refl
inside-name _ i e = refl

made-other : (r : Role) (k : AstType) (l : Label) (fs : Fields) (i : ℕ) → makes_scope k ≡ true → is_name_of k i ≡ false → IsOther false (role_at r k l fs i)
made-other r StaticBlock l fs zero h e = tt
made-other r FunctionDeclaration l fs zero h e = other-function r
made-other r FunctionDeclaration l fs (suc zero) h e = tt
made-other r FunctionExpression l fs zero h e = absurd (cc e)
made-other r FunctionExpression l fs (suc zero) h e = tt
made-other r FunctionBody l fs (suc zero) h e = tt
made-other r ArrowFunctionExpression l fs zero h e = tt
made-other r ClassDeclaration l fs zero h e = tt
made-other r ClassDeclaration l fs (suc (suc zero)) h e = tt
made-other r ClassExpression l fs zero h e = tt
made-other r ClassExpression l fs (suc (suc zero)) h e = tt
made-other r ForInStatement l fs zero h e = tt
made-other r ForOfStatement l fs zero h e = tt
made-other r CatchClause l fs zero h e = tt
made-other r BlockStatement l fs i h e = other-rest BlockStatement l i
made-other r StaticBlock l fs (suc i) h e = other-rest StaticBlock l (suc i)
made-other r FunctionDeclaration l fs (suc (suc i)) h e = other-rest FunctionDeclaration l (suc (suc i))
made-other r FunctionExpression l fs (suc (suc i)) h e = other-rest FunctionExpression l (suc (suc i))
made-other r FunctionBody l fs zero h e = other-rest FunctionBody l zero
made-other r FunctionBody l fs (suc (suc i)) h e = other-rest FunctionBody l (suc (suc i))
made-other r ArrowFunctionExpression l fs (suc i) h e = other-rest ArrowFunctionExpression l (suc i)
made-other r ClassDeclaration l fs (suc zero) h e = other-rest ClassDeclaration l (suc zero)
made-other r ClassDeclaration l fs (suc (suc (suc i))) h e = other-rest ClassDeclaration l (suc (suc (suc i)))
made-other r ClassExpression l fs (suc zero) h e = other-rest ClassExpression l (suc zero)
made-other r ClassExpression l fs (suc (suc (suc i))) h e = other-rest ClassExpression l (suc (suc (suc i)))
made-other r ForStatement l fs i h e = other-rest ForStatement l i
made-other r ForInStatement l fs (suc i) h e = other-rest ForInStatement l (suc i)
made-other r ForOfStatement l fs (suc i) h e = other-rest ForOfStatement l (suc i)
made-other r SwitchStatement l fs i h e = other-rest SwitchStatement l i
made-other r CatchClause l fs (suc i) h e = other-rest CatchClause l (suc i)
made-other r _ l fs i h e = absurd (cc h)

-- in a node that makes a scope no field hands on the role of the node
pub inside-other : (r : Role) (k : AstType) (l : Label) (fs : Fields) → makes_scope k ≡ true → (i : ℕ) → is_inside k i ≡ true → IsOther false (role_at r k l fs i)
inside-other r k l fs h i e = made-other r k l fs i h (inside-name k i e)
