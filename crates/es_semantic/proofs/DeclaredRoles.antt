-- An identifier is declared by its role exactly where the static rules have a name for it: what stands in each field of a node, by
-- the kinds of both.
use Rattle.std.proofs.Common.{arith, ◌≡◌, ℕ, zero, suc, ◌==◌, refl, sym, ◌∙◌, List, [], ◌∷◌, ◌++◌}
use Rattle.std.specs.Prelude.{Bool, true, false, not, ◌||◌, map, if◌then◌else◌}
use Rattle.std.proofs.lemmas.Bool.{ne_eqb}
use Rattle.es_tree.specs.Ancestors.{Ancestor, ancestor, is_boundary, makes_scope, scopes}
use Rattle.es_tree.specs.DeclaredNames.{Name, bound_names, declaration_names, exports_of, is_at_top, name, names_in_scope}
use Rattle.es_tree.specs.CoreStaticRules.{is_lexical}
use Rattle.es_tree.specs.HasForm.{same_type}
use Rattle.es_tree.specs.Names.{first_text, is_name_place, third_stands}
use Rattle.es_tree.specs.Tree.{Label, Fields}
use Rattle.es_tree.specs.Words.{Text}
use Rattle.es_tree.specs.declared.place.Namespace.TheVariants.{Scope}
use Rattle.es_tree.specs.declared.ast_type.AstType.{AstType}
use Rattle.es_tree.specs.declared.ast_type.AstType.TheVariants.{
  Program,
  StaticBlock,
  VariableDeclaration,
  VariableDeclarator,
  FunctionDeclaration,
  FunctionExpression,
  FunctionBody,
  ArrowFunctionExpression,
  ClassDeclaration,
  ClassExpression,
  MethodDefinition,
  ForInStatement,
  ForOfStatement,
  CatchClause,
  ImportSpecifier,
  ImportDefaultSpecifier,
  ImportNamespaceSpecifier,
  ExportNamedDeclaration,
  ExportDefaultDeclaration,
  ExportSpecifier,
  Identifier,
  AssignmentExpression,
  UpdateExpression,
  ParenthesizedExpression,
  ObjectPattern,
  PatternProperty,
  ArrayPattern,
  AssignmentPattern,
  RestElement,
  ObjectTarget,
  TargetProperty,
  ArrayTarget,
  TargetWithDefault,
  TargetRest,
}
use Rattle.es_semantic.specs.DeclaredAlike.{declares, is_any, is_own_name}
use Rattle.es_semantic.specs.RolesOf.{member_role, reads, role_at}
use Rattle.es_semantic.specs.declared.place.Role.{Role}
use Rattle.es_semantic.specs.declared.place.Role.TheVariants.{Nothing, Member, Constructor}

-- KINDS

abbrev pub is_identifier : AstType → Bool
is_identifier Identifier = true
is_identifier _ = false

abbrev pub is_declarator : AstType → Bool
is_declarator VariableDeclarator = true
is_declarator _ = false

-- an identifier that is declared, or a pattern or a part of one
abbrev pub is_pattern : AstType → Bool
is_pattern Identifier = true
is_pattern ObjectPattern = true
is_pattern PatternProperty = true
is_pattern ArrayPattern = true
is_pattern AssignmentPattern = true
is_pattern RestElement = true
is_pattern _ = false

-- whether a node of a kind may stand in this field of another, as far as declarations ask: every program of the tree form is so
abbrev pub fits : AstType → ℕ → Bool → AstType → Bool
fits VariableDeclaration zero last j = is_declarator j
fits VariableDeclaration (suc i) last j = false
fits VariableDeclarator zero last j = is_pattern j
fits FunctionDeclaration zero last j = is_identifier j
fits FunctionDeclaration (suc zero) last j = is_pattern j
fits FunctionExpression zero last j = is_identifier j
fits FunctionExpression (suc zero) last j = is_pattern j
fits ArrowFunctionExpression zero last j = is_pattern j
fits ClassDeclaration zero last j = is_identifier j
fits ClassExpression zero last j = is_identifier j
fits CatchClause zero last j = is_pattern j
fits ImportSpecifier (suc zero) last j = is_identifier j
fits ImportDefaultSpecifier zero last j = is_identifier j
fits ImportNamespaceSpecifier zero last j = is_identifier j
fits ObjectPattern zero last j = is_pattern j
fits PatternProperty (suc zero) last j = is_pattern j
fits ArrayPattern i last j = is_pattern j
fits AssignmentPattern zero last j = is_pattern j
fits RestElement zero last j = is_pattern j
fits k i last j = true

-- WHAT IS DECLARED in a field, where what stands around declares (d)

abbrev pub declared_in_field : Bool → AstType → ℕ → Bool
declared_in_field d VariableDeclaration zero = true
declared_in_field d VariableDeclarator zero = d
declared_in_field d FunctionDeclaration zero = true
declared_in_field d FunctionDeclaration (suc zero) = true
declared_in_field d FunctionExpression zero = true
declared_in_field d FunctionExpression (suc zero) = true
declared_in_field d ArrowFunctionExpression zero = true
declared_in_field d ClassDeclaration zero = true
declared_in_field d ClassExpression zero = true
declared_in_field d CatchClause zero = true
declared_in_field d ImportSpecifier (suc zero) = true
declared_in_field d ImportDefaultSpecifier zero = true
declared_in_field d ImportNamespaceSpecifier zero = true
declared_in_field d ExportNamedDeclaration zero = d
declared_in_field d ExportDefaultDeclaration zero = d
declared_in_field d ExportSpecifier zero = d
declared_in_field d ParenthesizedExpression zero = d
declared_in_field d ObjectPattern zero = d
declared_in_field d PatternProperty (suc zero) = d
declared_in_field d ArrayPattern i = d
declared_in_field d AssignmentPattern zero = d
declared_in_field d RestElement zero = d
declared_in_field d ObjectTarget zero = d
declared_in_field d TargetProperty (suc zero) = d
declared_in_field d ArrayTarget i = d
declared_in_field d TargetWithDefault zero = d
declared_in_field d TargetRest zero = d
declared_in_field d k i = false

plain : (b : Bool) → declares (if b then reads else Nothing) ≡ false
plain true = refl
plain false = refl

turned : (b : Bool) → declares (if b then Nothing else reads) ≡ false
turned true = refl
turned false = refl

constructors : (b d : Bool) → declares (if b then Constructor d else Nothing) ≡ false
constructors true d = refl
constructors false d = refl

members : (w : Text) (r : Role) → declares (member_role w r) ≡ false
members w (Member d) = constructors _ d
members w _ = refl

pub role-declares : (r : Role) (k : AstType) (l : Label) (fs : Fields) (i : ℕ) → declares (role_at r k l fs i) ≡ declared_in_field (declares r) k i
role-declares r Program l fs zero = refl
role-declares r Program l fs (suc zero) = refl
role-declares r Program l fs (suc (suc i)) = refl
role-declares r FunctionBody l fs zero = refl
role-declares r FunctionBody l fs (suc zero) = refl
role-declares r FunctionBody l fs (suc (suc i)) = refl
role-declares r StaticBlock l fs zero = refl
role-declares r StaticBlock l fs (suc i) = refl
role-declares r ExportNamedDeclaration l fs zero = refl
role-declares r ExportNamedDeclaration l fs (suc zero) = turned (third_stands fs)
role-declares r ExportNamedDeclaration l fs (suc (suc i)) = refl
role-declares r ExportDefaultDeclaration l fs zero = refl
role-declares r ExportDefaultDeclaration l fs (suc i) = refl
role-declares r VariableDeclaration l fs zero = refl
role-declares r VariableDeclaration l fs (suc i) = refl
role-declares r VariableDeclarator l fs zero = refl
role-declares r VariableDeclarator l fs (suc i) = refl
role-declares r FunctionDeclaration l fs zero = refl
role-declares r FunctionDeclaration l fs (suc zero) = refl
role-declares r FunctionDeclaration l fs (suc (suc i)) = refl
role-declares r FunctionExpression l fs zero = refl
role-declares r FunctionExpression l fs (suc zero) = refl
role-declares r FunctionExpression l fs (suc (suc i)) = refl
role-declares r ArrowFunctionExpression l fs zero = refl
role-declares r ArrowFunctionExpression l fs (suc i) = refl
role-declares r ClassDeclaration l fs zero = refl
role-declares r ClassDeclaration l fs (suc zero) = refl
role-declares r ClassDeclaration l fs (suc (suc zero)) = refl
role-declares r ClassDeclaration l fs (suc (suc (suc i))) = refl
role-declares r ClassExpression l fs zero = refl
role-declares r ClassExpression l fs (suc zero) = refl
role-declares r ClassExpression l fs (suc (suc zero)) = refl
role-declares r ClassExpression l fs (suc (suc (suc i))) = refl
role-declares r MethodDefinition l fs zero = plain (is_name_place MethodDefinition l 0)
role-declares r MethodDefinition l fs (suc zero) = members (first_text l.texts) r
role-declares r MethodDefinition l fs (suc (suc i)) = refl
role-declares r CatchClause l fs zero = refl
role-declares r CatchClause l fs (suc i) = refl
role-declares r ImportSpecifier l fs zero = refl
role-declares r ImportSpecifier l fs (suc zero) = refl
role-declares r ImportSpecifier l fs (suc (suc i)) = refl
role-declares r ImportDefaultSpecifier l fs zero = refl
role-declares r ImportDefaultSpecifier l fs (suc i) = refl
role-declares r ImportNamespaceSpecifier l fs zero = refl
role-declares r ImportNamespaceSpecifier l fs (suc i) = refl
role-declares r ExportSpecifier l fs zero = refl
role-declares r ExportSpecifier l fs (suc zero) = refl
role-declares r ExportSpecifier l fs (suc (suc i)) = refl
role-declares r ForInStatement l fs zero = refl
role-declares r ForInStatement l fs (suc i) = refl
role-declares r ForOfStatement l fs zero = refl
role-declares r ForOfStatement l fs (suc i) = refl
role-declares r AssignmentExpression l fs zero = refl
role-declares r AssignmentExpression l fs (suc i) = refl
role-declares r UpdateExpression l fs zero = refl
role-declares r UpdateExpression l fs (suc i) = refl
role-declares r ParenthesizedExpression l fs zero = refl
role-declares r ParenthesizedExpression l fs (suc i) = refl
role-declares r ObjectPattern l fs zero = refl
role-declares r ObjectPattern l fs (suc i) = refl
role-declares r PatternProperty l fs zero = plain (is_name_place PatternProperty l 0)
role-declares r PatternProperty l fs (suc zero) = refl
role-declares r PatternProperty l fs (suc (suc i)) = refl
role-declares r ArrayPattern l fs i = refl
role-declares r AssignmentPattern l fs zero = refl
role-declares r AssignmentPattern l fs (suc i) = refl
role-declares r RestElement l fs zero = refl
role-declares r RestElement l fs (suc i) = refl
role-declares r ObjectTarget l fs zero = refl
role-declares r ObjectTarget l fs (suc i) = refl
role-declares r TargetProperty l fs zero = plain (is_name_place TargetProperty l 0)
role-declares r TargetProperty l fs (suc zero) = refl
role-declares r TargetProperty l fs (suc (suc i)) = refl
role-declares r ArrayTarget l fs i = refl
role-declares r TargetWithDefault l fs zero = refl
role-declares r TargetWithDefault l fs (suc i) = refl
role-declares r TargetRest l fs zero = refl
role-declares r TargetRest l fs (suc i) = refl
role-declares r k l fs i = plain (is_name_place k l i)

-- THE NAMES OF THE STATIC RULES in a field, where they have some around (d), and a declarator's declaration has some (v)

abbrev pub names_in_field : Bool → Bool → AstType → ℕ → Bool
names_in_field d v VariableDeclarator zero = v
names_in_field d v FunctionDeclaration zero = true
names_in_field d v FunctionDeclaration (suc zero) = true
names_in_field d v FunctionExpression (suc zero) = true
names_in_field d v ArrowFunctionExpression zero = true
names_in_field d v ClassDeclaration zero = true
names_in_field d v CatchClause zero = true
names_in_field d v ImportSpecifier (suc zero) = true
names_in_field d v ImportDefaultSpecifier zero = true
names_in_field d v ImportNamespaceSpecifier zero = true
names_in_field d v ObjectPattern zero = d
names_in_field d v PatternProperty (suc zero) = d
names_in_field d v ArrayPattern i = d
names_in_field d v AssignmentPattern zero = d
names_in_field d v RestElement zero = d
names_in_field d v k i = false

abbrev pub own_name_in_field : AstType → ℕ → Bool
own_name_in_field FunctionExpression zero = true
own_name_in_field ClassExpression zero = true
own_name_in_field k i = false

abbrev pub is_declaration : AstType → Bool
is_declaration VariableDeclaration = true
is_declaration k = false

-- whether a scope is around
abbrev pub some_scope : List ℕ → Bool
some_scope [] = false
some_scope (n ∷ ns) = true

abbrev pub IsInside : AstType → List Ancestor → Type 0
IsInside k up = (same_type k Program || some_scope (scopes up)) ≡ true

one-zero : (i : ℕ) → (suc i == 0) ≡ false
one-zero i = ne_eqb (suc i) 0 (λ e. omega arith)

two-one : (i : ℕ) → (suc (suc i) == 1) ≡ false
two-one i = ne_eqb (suc (suc i)) 1 (λ e. omega arith)

scope-name : (ss : List ℕ) (x : Text) (b : Bool) (es : List Name) → some_scope ss ≡ true → is_any (names_in_scope ss x b ++ es) ≡ true
scope-name [] x b es h = absurd (cc h)
scope-name (s ∷ ss) x b es h = refl

lone-name : (ss : List ℕ) (x : Text) → some_scope ss ≡ true → is_any (names_in_scope ss x true) ≡ true
lone-name [] x h = absurd (cc h)
lone-name (s ∷ ss) x h = refl

declared-name : (c : Bool) (ss : List ℕ) (x : Text) (es : List Name) → some_scope ss ≡ true → is_any ((if c then names_in_scope ss x true else map (λ n. name Scope n x false) ss) ++ es) ≡ true
declared-name c [] x es h = absurd (cc h)
declared-name true (s ∷ ss) x es h = refl
declared-name false (s ∷ ss) x es h = refl

module _ (up : List Ancestor) (x : Text) where
  abbrev pub around : Bool
  around = is_any (bound_names up x)

  abbrev pub declaring : Bool
  declaring = is_any (declaration_names up x)

  pub names-in : (k : AstType) (l : Label) (fs : Fields) (n i : ℕ) → IsInside k up → is_any (bound_names (ancestor k l fs i n ∷ up) x) ≡ names_in_field around declaring k i
  names-in VariableDeclarator l fs n zero h = refl
  names-in VariableDeclarator l fs n (suc i) h = rw (one-zero i)
  names-in FunctionDeclaration l fs n zero h = scope-name (scopes up) x (not (is_at_top up)) (exports_of up x) h
  names-in FunctionDeclaration l fs n (suc zero) h = refl
  names-in FunctionDeclaration l fs n (suc (suc i)) h = rw (one-zero (suc i), two-one i)
  names-in FunctionExpression l fs n zero h = refl
  names-in FunctionExpression l fs n (suc zero) h = refl
  names-in FunctionExpression l fs n (suc (suc i)) h = rw (two-one i)
  names-in ArrowFunctionExpression l fs n zero h = refl
  names-in ArrowFunctionExpression l fs n (suc i) h = rw (one-zero i)
  names-in ClassDeclaration l fs n zero h = scope-name (scopes up) x true (exports_of up x) h
  names-in ClassDeclaration l fs n (suc i) h = rw (one-zero i)
  names-in CatchClause l fs n zero h = refl
  names-in CatchClause l fs n (suc i) h = rw (one-zero i)
  names-in ImportSpecifier l fs n zero h = refl
  names-in ImportSpecifier l fs n (suc zero) h = lone-name (scopes up) x h
  names-in ImportSpecifier l fs n (suc (suc i)) h = rw (two-one i)
  names-in ImportDefaultSpecifier l fs n zero h = lone-name (scopes up) x h
  names-in ImportDefaultSpecifier l fs n (suc i) h = rw (one-zero i)
  names-in ImportNamespaceSpecifier l fs n zero h = lone-name (scopes up) x h
  names-in ImportNamespaceSpecifier l fs n (suc i) h = rw (one-zero i)
  names-in ObjectPattern l fs n zero h = refl
  names-in ObjectPattern l fs n (suc i) h = rw (one-zero i)
  names-in PatternProperty l fs n zero h = refl
  names-in PatternProperty l fs n (suc zero) h = refl
  names-in PatternProperty l fs n (suc (suc i)) h = rw (two-one i)
  names-in ArrayPattern l fs n i h = refl
  names-in AssignmentPattern l fs n zero h = refl
  names-in AssignmentPattern l fs n (suc i) h = rw (one-zero i)
  names-in RestElement l fs n zero h = refl
  names-in RestElement l fs n (suc i) h = rw (one-zero i)
  names-in k l fs n i h = refl

  pub own-name-in : (k : AstType) (l : Label) (fs : Fields) (n i : ℕ) → is_own_name (ancestor k l fs i n ∷ up) ≡ own_name_in_field k i
  own-name-in FunctionExpression l fs n zero = refl
  own-name-in FunctionExpression l fs n (suc i) = rw (one-zero i)
  own-name-in ClassExpression l fs n zero = refl
  own-name-in ClassExpression l fs n (suc i) = rw (one-zero i)
  own-name-in k l fs n i = refl

  pub declaration-in : (k : AstType) (l : Label) (fs : Fields) (n i : ℕ) → IsInside k up → is_any (declaration_names (ancestor k l fs i n ∷ up) x) ≡ is_declaration k
  declaration-in VariableDeclaration l fs n i h = declared-name (is_lexical (first_text l.texts)) (scopes up) x (exports_of up x) h
  declaration-in k l fs n i h = refl

-- a node inside a program is in its scope
later-scope : (c d : Bool) (n : ℕ) (ss : List ℕ) → some_scope ss ≡ true → some_scope (if c then (if d then n ∷ [] else n ∷ ss) else ss) ≡ true
later-scope false d n ss h = h
later-scope true true n ss h = refl
later-scope true false n ss h = refl

pub inside-scope : (up : List Ancestor) (k : AstType) (l : Label) (fs : Fields) (n i : ℕ) → IsInside k up → some_scope (scopes (ancestor k l fs i n ∷ up)) ≡ true
inside-scope up Program l fs n i h = refl
inside-scope up k l fs n i h = later-scope (makes_scope k up) (is_boundary k) n (scopes up) h

-- BOTH

-- what a node of a kind is expected to declare, by the names that the static rules have for it
abbrev pub expected : AstType → Bool → Bool → Bool → Bool
expected Identifier d own v = d || own
expected ObjectPattern d own v = d
expected PatternProperty d own v = d
expected ArrayPattern d own v = d
expected AssignmentPattern d own v = d
expected RestElement d own v = d
expected VariableDeclarator d own v = v
expected k d own v = false

none-expected : (j : AstType) → expected j false false false ≡ false
none-expected Identifier = refl
none-expected _ = refl

or_none : (d : Bool) → (d || false) ≡ d
or_none true = refl
or_none false = refl

pattern-expected : (j : AstType) (d : Bool) → is_pattern j ≡ true → expected j d false false ≡ d
pattern-expected Identifier d h = or_none d
pattern-expected ObjectPattern d h = refl
pattern-expected PatternProperty d h = refl
pattern-expected ArrayPattern d h = refl
pattern-expected AssignmentPattern d h = refl
pattern-expected RestElement d h = refl
pattern-expected _ d h = absurd (cc h)

declarator-expected : (j : AstType) → is_declarator j ≡ true → expected j false false true ≡ true
declarator-expected VariableDeclarator h = refl
declarator-expected _ h = absurd (cc h)

name-expected : (j : AstType) (d own : Bool) → (d || own) ≡ true → is_identifier j ≡ true → expected j d own false ≡ true
name-expected Identifier d own e h = e
name-expected _ d own e h = absurd (cc h)

-- what the role of a field declares is what is expected of what stands there
pub field-expected : (d own v e : Bool) (k : AstType) (i : ℕ) (last : Bool) (j : AstType) → e ≡ expected k d own v → fits k i last j ≡ true →
    declared_in_field e k i ≡ expected j (names_in_field d v k i) (own_name_in_field k i) (is_declaration k)
field-expected d own v e VariableDeclaration zero last j h f = sym (declarator-expected j f)
field-expected d own v e VariableDeclaration (suc i) last j h f = absurd (cc f)
field-expected d own v e VariableDeclarator zero last j h f = h ∙ sym (pattern-expected j v f)
field-expected d own v e VariableDeclarator (suc i) last j h f = sym (none-expected j)
field-expected d own v e FunctionDeclaration zero last j h f = sym (name-expected j true false refl f)
field-expected d own v e FunctionDeclaration (suc zero) last j h f = sym (pattern-expected j true f)
field-expected d own v e FunctionDeclaration (suc (suc i)) last j h f = sym (none-expected j)
field-expected d own v e FunctionExpression zero last j h f = sym (name-expected j false true refl f)
field-expected d own v e FunctionExpression (suc zero) last j h f = sym (pattern-expected j true f)
field-expected d own v e FunctionExpression (suc (suc i)) last j h f = sym (none-expected j)
field-expected d own v e ArrowFunctionExpression zero last j h f = sym (pattern-expected j true f)
field-expected d own v e ArrowFunctionExpression (suc i) last j h f = sym (none-expected j)
field-expected d own v e ClassDeclaration zero last j h f = sym (name-expected j true false refl f)
field-expected d own v e ClassDeclaration (suc i) last j h f = sym (none-expected j)
field-expected d own v e ClassExpression zero last j h f = sym (name-expected j false true refl f)
field-expected d own v e ClassExpression (suc i) last j h f = sym (none-expected j)
field-expected d own v e CatchClause zero last j h f = sym (pattern-expected j true f)
field-expected d own v e CatchClause (suc i) last j h f = sym (none-expected j)
field-expected d own v e ImportSpecifier zero last j h f = sym (none-expected j)
field-expected d own v e ImportSpecifier (suc zero) last j h f = sym (name-expected j true false refl f)
field-expected d own v e ImportSpecifier (suc (suc i)) last j h f = sym (none-expected j)
field-expected d own v e ImportDefaultSpecifier zero last j h f = sym (name-expected j true false refl f)
field-expected d own v e ImportDefaultSpecifier (suc i) last j h f = sym (none-expected j)
field-expected d own v e ImportNamespaceSpecifier zero last j h f = sym (name-expected j true false refl f)
field-expected d own v e ImportNamespaceSpecifier (suc i) last j h f = sym (none-expected j)
field-expected d own v e ObjectPattern zero last j h f = h ∙ sym (pattern-expected j d f)
field-expected d own v e ObjectPattern (suc i) last j h f = sym (none-expected j)
field-expected d own v e PatternProperty zero last j h f = sym (none-expected j)
field-expected d own v e PatternProperty (suc zero) last j h f = h ∙ sym (pattern-expected j d f)
field-expected d own v e PatternProperty (suc (suc i)) last j h f = sym (none-expected j)
field-expected d own v e ArrayPattern i last j h f = h ∙ sym (pattern-expected j d f)
field-expected d own v e AssignmentPattern zero last j h f = h ∙ sym (pattern-expected j d f)
field-expected d own v e AssignmentPattern (suc i) last j h f = sym (none-expected j)
field-expected d own v e RestElement zero last j h f = h ∙ sym (pattern-expected j d f)
field-expected d own v e RestElement (suc i) last j h f = sym (none-expected j)
field-expected d own v e ExportNamedDeclaration zero last j h f = h ∙ sym (none-expected j)
field-expected d own v e ExportNamedDeclaration (suc i) last j h f = sym (none-expected j)
field-expected d own v e ExportDefaultDeclaration zero last j h f = h ∙ sym (none-expected j)
field-expected d own v e ExportDefaultDeclaration (suc i) last j h f = sym (none-expected j)
field-expected d own v e ExportSpecifier zero last j h f = h ∙ sym (none-expected j)
field-expected d own v e ExportSpecifier (suc i) last j h f = sym (none-expected j)
field-expected d own v e ParenthesizedExpression zero last j h f = h ∙ sym (none-expected j)
field-expected d own v e ParenthesizedExpression (suc i) last j h f = sym (none-expected j)
field-expected d own v e ObjectTarget zero last j h f = h ∙ sym (none-expected j)
field-expected d own v e ObjectTarget (suc i) last j h f = sym (none-expected j)
field-expected d own v e TargetProperty zero last j h f = sym (none-expected j)
field-expected d own v e TargetProperty (suc zero) last j h f = h ∙ sym (none-expected j)
field-expected d own v e TargetProperty (suc (suc i)) last j h f = sym (none-expected j)
field-expected d own v e ArrayTarget i last j h f = h ∙ sym (none-expected j)
field-expected d own v e TargetWithDefault zero last j h f = h ∙ sym (none-expected j)
field-expected d own v e TargetWithDefault (suc i) last j h f = sym (none-expected j)
field-expected d own v e TargetRest zero last j h f = h ∙ sym (none-expected j)
field-expected d own v e TargetRest (suc i) last j h f = sym (none-expected j)
field-expected d own v e k i last j h f = sym (none-expected j)
