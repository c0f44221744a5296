-- A statement that is no declaration, no import and no export declares nothing around it but by `var`: no such statement stands in it outside
-- scopes, where no declaration is the body of an `if`, a loop or a label.
use Rattle.std.proofs.Common.{arith, ◌≡◌, ◌+◌, ℕ, zero, suc, refl, sym, subst, [], ◌++◌}
use Rattle.std.specs.Prelude.{Bool, true, false, ◌||◌, ◌&&◌, not, List, Some, bytes_eq, codes, if◌then◌else◌}
use Rattle.std.proofs.lemmas.Bool.{not_from_false}
use Rattle.es_tree.specs.Attributes.{child_entries}
use Rattle.es_tree.specs.CoreStaticRules.{is_lexical}
use Rattle.es_tree.specs.HasForm.{ElementsPlace, elements_of, has_form, same_type}
use Rattle.es_tree.specs.Names.{first_text, is_name_place}
use Rattle.es_tree.specs.StaticRules.{is_declaration, is_module_item}
use Rattle.es_tree.specs.Table.{kinds_of}
use Rattle.es_tree.specs.Tree.{Tree, node, Label, Fields, done, ◌then◌, Field, missing, one, many, statements, Trees, empty, ◌before◌, kind_of, label_of, fields_of}
use Rattle.es_tree.specs.Words.{Text}
use Rattle.es_tree.specs.declared.ast_type.AstType.{AstType}
use Rattle.es_tree.specs.declared.ast_type.AstType.TheVariants.{
  ArrayExpression,
  ArrayPattern,
  ArrayTarget,
  ArrowFunctionExpression,
  AssignmentExpression,
  AssignmentPattern,
  CatchClause,
  ClassDeclaration,
  ClassExpression,
  ExportAllDeclaration,
  ExportDefaultDeclaration,
  ExportNamedDeclaration,
  ExportSpecifier,
  ForInStatement,
  ForOfStatement,
  FunctionBody,
  FunctionDeclaration,
  FunctionExpression,
  Identifier,
  ImportDeclaration,
  ImportDefaultSpecifier,
  ImportNamespaceSpecifier,
  ImportSpecifier,
  MethodDefinition,
  ObjectPattern,
  ObjectTarget,
  ParenthesizedExpression,
  PatternProperty,
  Program,
  RestElement,
  StaticBlock,
  SwitchCase,
  TargetProperty,
  TargetRest,
  TargetWithDefault,
  UpdateExpression,
  VariableDeclaration,
  VariableDeclarator,
}
use Rattle.es_tree.specs.declared.table.Sort.TheVariants.{Statement as s-Statement}
use Rattle.es_tree.proofs.CoreBreaks.{among_kinds}
use Rattle.es_tree.proofs.NodeForm.{node_form}
use Rattle.es_semantic.specs.RolesOf.{binding_of, member_role, reads, role_at}
use Rattle.es_semantic.specs.declared.place.Binding.TheVariants.{Constant, Let, Variable}
use Rattle.es_semantic.specs.declared.place.Role.{Role}
use Rattle.es_semantic.specs.declared.place.Role.TheVariants.{Binds, Constructor, Member, Nothing}
use Rattle.es_semantic.proofs.FormEdges.{Edges, EdgesAll, EdgesBy, EdgesIn, ElementsFit, TableFits, edges-inside, elements-are, entries_fit, is_last}
use Rattle.es_resolution.specs.Declarations.{Bound, declared, declared_among, declared_by, declared_in, is_asked, own_declared, reaches_out}
use Rattle.es_resolution.proofs.AllForms.{All, AllAmong, AllBy, AllIn}
use Rattle.es_pattern_moves.proofs.Settled.{SettledAll, SettledAt, SettledBy, SettledIn, Sound, is_lone}

-- KINDS that declare nothing around them but by `var`, where what stands in them doesn't

abbrev pub is_calm : AstType → Label → Bool
is_calm VariableDeclaration l = not (is_lexical (first_text l.texts))
is_calm FunctionDeclaration l = false
is_calm ClassDeclaration l = false
is_calm ImportDeclaration l = false
is_calm ExportNamedDeclaration l = false
is_calm ExportDefaultDeclaration l = false
is_calm ExportAllDeclaration l = false
is_calm ImportSpecifier l = false
is_calm ImportDefaultSpecifier l = false
is_calm ImportNamespaceSpecifier l = false
is_calm ExportSpecifier l = false
is_calm SwitchCase l = false
is_calm Program l = false
is_calm _ l = true

-- whatever their word
abbrev may_calm : AstType → Bool
may_calm VariableDeclaration = true
may_calm FunctionDeclaration = false
may_calm ClassDeclaration = false
may_calm ImportDeclaration = false
may_calm ExportNamedDeclaration = false
may_calm ExportDefaultDeclaration = false
may_calm ExportAllDeclaration = false
may_calm ImportSpecifier = false
may_calm ImportDefaultSpecifier = false
may_calm ImportNamespaceSpecifier = false
may_calm ExportSpecifier = false
may_calm SwitchCase = false
may_calm Program = false
may_calm _ = true

-- what may stand in such a node, outside its scope
abbrev may_stand : AstType → ℕ → AstType → Bool
may_stand k i VariableDeclaration = is_lone k i
may_stand k i FunctionDeclaration = is_lone k i
may_stand k i ClassDeclaration = is_lone k i
may_stand k i ImportDeclaration = true
may_stand k i ExportNamedDeclaration = true
may_stand k i ExportDefaultDeclaration = true
may_stand k i ExportAllDeclaration = true
may_stand k i j = may_calm j

abbrev pub stands : AstType → ℕ → Bool → AstType → Bool
stands k i last j = not (may_calm k) || (not (reaches_out false k i) || may_stand k i j)

entries-fit : (k : AstType) → entries_fit stands k 0 (child_entries k) ≡ true
entries-fit Program = refl
entries-fit _ = refl

elements-fit : (k : AstType) (p : ElementsPlace) → elements_of (child_entries k) ≡ Some p → ElementsFit stands k p
elements-fit ArrayExpression p e = elements-are stands ArrayExpression _ p e (record { sort = λ i b. refl; last = λ i b. refl })
elements-fit ArrayPattern p e = elements-are stands ArrayPattern _ p e (record { sort = λ i b. refl; last = λ i b. refl })
elements-fit ArrayTarget p e = elements-are stands ArrayTarget _ p e (record { sort = λ i b. refl; last = λ i b. refl })
elements-fit _ p e = absurd (cc e)

table : TableFits stands
table = record { entries = entries-fit; elements = elements-fit }

-- what stands in a calm node, outside its scope, is calm

calm-may : (k : AstType) (l : Label) → is_calm k l ≡ true → may_calm k ≡ true
calm-may VariableDeclaration l e = refl
calm-may k l e = e

calm-program : (k : AstType) (l : Label) → is_calm k l ≡ true → same_type k Program ≡ false
calm-program Program l e = absurd (cc e)
calm-program _ l e = refl

item-none : (a b : Bool) → (a && not b) ≡ false → b ≡ false → a ≡ false
item-none true b e d = absurd (cc (e, d))
item-none false b e d = refl

lone-none : (a b : Bool) → (a && b) ≡ false → b ≡ true → a ≡ false
lone-none true b e d = absurd (cc (e, d))
lone-none false b e d = refl

child-kind : (k : AstType) (i : ℕ) (j : AstType) (l : Label) → may_stand k i j ≡ true → (is_declaration j l && is_lone k i) ≡ false → is_module_item j ≡ false → is_calm j l ≡ true
child-kind k i VariableDeclaration l m b n = not_from_false (is_lexical (first_text l.texts)) (lone-none (is_lexical (first_text l.texts)) (is_lone k i) b m)
child-kind k i FunctionDeclaration l m b n = absurd (let no : true ≡ false = lone-none true (is_lone k i) b m in cc)
child-kind k i ClassDeclaration l m b n = absurd (let no : true ≡ false = lone-none true (is_lone k i) b m in cc)
child-kind k i ImportDeclaration l m b n = absurd (cc n)
child-kind k i ExportNamedDeclaration l m b n = absurd (cc n)
child-kind k i ExportDefaultDeclaration l m b n = absurd (cc n)
child-kind k i ExportAllDeclaration l m b n = absurd (cc n)
child-kind k i _ l m b n = m

stand-there : (k : AstType) (i : ℕ) (j : AstType) → (not (may_calm k) || (not (reaches_out false k i) || may_stand k i j)) ≡ true → may_calm k ≡ true → reaches_out false k i ≡ true → may_stand k i j ≡ true
stand-there k i j e m d = at (may_calm k) (reaches_out false k i) e m d
  where
    at : (a b : Bool) → (not a || (not b || may_stand k i j)) ≡ true → a ≡ true → b ≡ true → may_stand k i j ≡ true
    at true true e m d = e
    at true false e m d = absurd (cc d)
    at false b e m d = absurd (cc m)

child-calm : (k : AstType) (n : ℕ) (last : Bool) (t : Tree) → may_calm k ≡ true → same_type k Program ≡ false → reaches_out false k n ≡ true → Edges stands k n last t → SettledAt k n t → is_calm (kind_of t) (label_of t) ≡ true
child-calm k n last (node j l gs) m p d e s = child-kind k n j l (stand-there k n j e.0 m d) s.body (item-none (is_module_item j) (same_type k Program) s.item p)

edges-below : (k : AstType) (n : ℕ) (last : Bool) (t : Tree) → Edges stands k n last t → EdgesIn stands (kind_of t) 0 (fields_of t)
edges-below k n last (node j l gs) e = e.1

-- ROLES

asked-place : (b : Bool) → is_asked false (if b then reads else Nothing) ≡ false
asked-place true = refl
asked-place false = refl

asked-constructor : (b derived : Bool) → is_asked false (if b then Constructor derived else Nothing) ≡ false
asked-constructor true derived = refl
asked-constructor false derived = refl

asked-member : (word : Text) (r : Role) → is_asked false (member_role word r) ≡ false
asked-member word (Member derived) = asked-constructor (bytes_eq word (codes "constructor")) derived
asked-member word _ = refl

asked-word : (word : Text) → not (is_lexical word) ≡ true → is_asked false (Binds (binding_of word)) ≡ false
asked-word word e = at (bytes_eq word (codes "var")) (bytes_eq word (codes "let")) e
  where
    at : (a b : Bool) → not (not a) ≡ true → is_asked false (Binds (if a then Variable else if b then Let else Constant)) ≡ false
    at true b e = refl
    at false b e = absurd (cc e)

role-unasked : (r : Role) (k : AstType) (l : Label) (fs : Fields) (i : ℕ) → is_calm k l ≡ true → is_asked false r ≡ false → reaches_out false k i ≡ true → is_asked false (role_at r k l fs i) ≡ false
role-unasked r FunctionBody l fs (suc zero) c o d = refl
role-unasked r StaticBlock l fs zero c o d = refl
role-unasked r VariableDeclaration l fs zero c o d = asked-word (first_text l.texts) c
role-unasked r VariableDeclarator l fs zero c o d = o
role-unasked r FunctionExpression l fs zero c o d = refl
role-unasked r FunctionExpression l fs (suc zero) c o d = absurd (cc d)
role-unasked r ArrowFunctionExpression l fs zero c o d = absurd (cc d)
role-unasked r ClassExpression l fs zero c o d = absurd (cc d)
role-unasked r ClassExpression l fs (suc (suc zero)) c o d = refl
role-unasked r MethodDefinition l fs (suc zero) c o d = asked-member (first_text l.texts) r
role-unasked r CatchClause l fs zero c o d = absurd (cc d)
role-unasked r ForInStatement l fs zero c o d = refl
role-unasked r ForOfStatement l fs zero c o d = refl
role-unasked r AssignmentExpression l fs zero c o d = refl
role-unasked r UpdateExpression l fs zero c o d = refl
role-unasked r ParenthesizedExpression l fs zero c o d = o
role-unasked r ObjectPattern l fs zero c o d = o
role-unasked r PatternProperty l fs (suc zero) c o d = o
role-unasked r ArrayPattern l fs i c o d = o
role-unasked r AssignmentPattern l fs zero c o d = o
role-unasked r RestElement l fs zero c o d = o
role-unasked r ObjectTarget l fs zero c o d = o
role-unasked r TargetProperty l fs (suc zero) c o d = o
role-unasked r ArrayTarget l fs i c o d = o
role-unasked r TargetWithDefault l fs zero c o d = o
role-unasked r TargetRest l fs zero c o d = o
role-unasked r Program l fs i c o d = absurd (cc c)
role-unasked r ExportNamedDeclaration l fs i c o d = absurd (cc c)
role-unasked r ExportDefaultDeclaration l fs i c o d = absurd (cc c)
role-unasked r FunctionDeclaration l fs i c o d = absurd (cc c)
role-unasked r ClassDeclaration l fs i c o d = absurd (cc c)
role-unasked r ImportSpecifier l fs i c o d = absurd (cc c)
role-unasked r ImportDefaultSpecifier l fs i c o d = absurd (cc c)
role-unasked r ImportNamespaceSpecifier l fs i c o d = absurd (cc c)
role-unasked r ExportSpecifier l fs i c o d = absurd (cc c)
role-unasked r k l fs i c o d = asked-place (is_name_place k l i)

-- WHAT IS DECLARED

own-none : (r : Role) (k : AstType) (l : Label) → is_asked false r ≡ false → own_declared false r k l ≡ []
own-none r Identifier l o = rw o refl
own-none r _ l o = refl

if-none : (c : Bool) (bs cs : List Bound) → (c ≡ true → bs ≡ []) → cs ≡ [] → (if c then bs else []) ++ cs ≡ []
if-none true bs cs h e = (λ i. h refl i ++ e i)
if-none false bs cs h e = e

next-place : (n i : ℕ) → n + suc i ≡ suc n + i
next-place n i = omega arith

first-place : (i : ℕ) → 0 + i ≡ i
first-place i = omega arith

last-place : (n : ℕ) → n + 0 ≡ n
last-place n = omega arith

-- the fields of a calm node from the n-th on, of which those count that are outside its scope
record Reached (k : AstType) (n : ℕ) (counts : ℕ → Bool) (roles : ℕ → Role) : Type 0 where
  places : (i : ℕ) → counts i ≡ true → reaches_out false k (n + i) ≡ true
  unasked : (i : ℕ) → counts i ≡ true → is_asked false (roles i) ≡ false

next-reached : (k : AstType) (n : ℕ) (counts : ℕ → Bool) (roles : ℕ → Role) → Reached k n counts roles → Reached k (suc n) (λ i. counts (suc i)) (λ i. roles (suc i))
next-reached k n counts roles h = record { places = λ i c. subst (λ (m : ℕ). reaches_out false k m ≡ true) (next-place n i) (h.places (suc i) c); unasked = λ i c. h.unasked (suc i) c }

mutual
  -- a calm tree
  quiet-tree : (r : Role) (t : Tree) → is_asked false r ≡ false → is_calm (kind_of t) (label_of t) ≡ true → EdgesIn stands (kind_of t) 0 (fields_of t) → All Sound t → declared false r t ≡ []
  quiet-tree r (node k l fs) o c e h =
      let reached : Reached k 0 (reaches_out false k) (role_at r k l fs) = record { places = λ i d. subst (λ (m : ℕ). reaches_out false k m ≡ true) (sym (first-place i)) d; unasked = λ i d. role-unasked r k l fs i c o d } in
      λ i. own-none r k l o i ++ quiet-in k 0 (reaches_out false k) (role_at r k l fs) fs (calm-may k l c) (calm-program k l c) reached e h.0.settled h.1 i

  quiet-in : (k : AstType) (n : ℕ) (counts : ℕ → Bool) (roles : ℕ → Role) (fs : Fields) → may_calm k ≡ true → same_type k Program ≡ false → Reached k n counts roles → EdgesIn stands k n fs → SettledIn k n fs → AllIn Sound fs → declared_in false counts roles fs ≡ []
  quiet-in k n counts roles done m p d e s h = refl
  quiet-in k n counts roles (f then fs) m p d e s h =
      if-none (counts zero) (declared_by false (roles zero) f) (declared_in false (λ i. counts (suc i)) (λ i. roles (suc i)) fs)
      (λ c. quiet-by k n (is_last fs) (roles zero) f m p (subst (λ (i : ℕ). reaches_out false k i ≡ true) (last-place n) (d.places zero c)) (d.unasked zero c) e.0 s.0 h.0)
      (quiet-in k (suc n) (λ i. counts (suc i)) (λ i. roles (suc i)) fs m p (next-reached k n counts roles d) e.1 s.1 h.1)

  quiet-by : (k : AstType) (n : ℕ) (last : Bool) (r : Role) (f : Field) → may_calm k ≡ true → same_type k Program ≡ false → reaches_out false k n ≡ true → is_asked false r ≡ false → EdgesBy stands k n last f → SettledBy k n f → AllBy Sound f → declared_by false r f ≡ []
  quiet-by k n last r missing m p d o e s h = refl
  quiet-by k n last r (one t) m p d o e s h = quiet-tree r t o (child-calm k n last t m p d e s) (edges-below k n last t e) h
  quiet-by k n last r (many ts) m p d o e s h = quiet-all k n r ts m p d o e s h
  quiet-by k n last r (statements ts) m p d o e s h = quiet-all k n r ts m p d o e s h

  quiet-all : (k : AstType) (n : ℕ) (r : Role) (ts : Trees) → may_calm k ≡ true → same_type k Program ≡ false → reaches_out false k n ≡ true → is_asked false r ≡ false → EdgesAll stands k n ts → SettledAll k n ts → AllAmong Sound ts → declared_among false r ts ≡ []
  quiet-all k n r empty m p d o e s h = refl
  quiet-all k n r (t before ts) m p d o e s h = λ i. quiet-tree r t o (child-calm k n false t m p d e.0 s.0) (edges-below k n false t e.0) h.0 i ++ quiet-all k n r ts m p d o e.1 s.1 h.1 i

-- where its kind declares nothing around it
pub quiet : (r : Role) (t : Tree) → is_asked false r ≡ false → is_calm (kind_of t) (label_of t) ≡ true → All Sound t → declared false r t ≡ []
quiet r (node k l fs) o c h = quiet-tree r (node k l fs) o c (edges-inside stands table h.0.sort k l fs h.0.form) h

-- KINDS of statements

abbrev is_body_kind : AstType → Bool
is_body_kind VariableDeclaration = true
is_body_kind FunctionDeclaration = true
is_body_kind ClassDeclaration = true
is_body_kind ImportDeclaration = true
is_body_kind ExportNamedDeclaration = true
is_body_kind ExportDefaultDeclaration = true
is_body_kind ExportAllDeclaration = true
is_body_kind j = may_calm j

lone-stands : (k : AstType) (i : ℕ) (j : AstType) → is_lone k i ≡ true → is_body_kind j ≡ true → may_stand k i j ≡ true
lone-stands k i VariableDeclaration e b = e
lone-stands k i FunctionDeclaration e b = e
lone-stands k i ClassDeclaration e b = e
lone-stands k i ImportDeclaration e b = refl
lone-stands k i ExportNamedDeclaration e b = refl
lone-stands k i ExportDefaultDeclaration e b = refl
lone-stands k i ExportAllDeclaration e b = refl
lone-stands k i _ e b = b

statement-kind : (j : AstType) (l : Label) (gs : Fields) → has_form s-Statement (node j l gs) ≡ true → is_body_kind j ≡ true
statement-kind j l gs h = among_kinds is_body_kind j (kinds_of s-Statement) (node_form s-Statement j l gs h).sort refl

-- a statement that is a body by itself
pub quiet-body : (k : AstType) (i : ℕ) (t : Tree) → is_lone k i ≡ true → same_type k Program ≡ false → SettledAt k i t → All Sound t → has_form s-Statement t ≡ true → declared false reads t ≡ []
quiet-body k i (node j l gs) lone p s h f =
    let item = item-none (is_module_item j) (same_type k Program) s.item p in
    quiet reads (node j l gs) refl (child-kind k i j l (lone-stands k i j lone (statement-kind j l gs f)) s.body item) h
