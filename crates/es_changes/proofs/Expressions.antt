-- What has the form of an expression declares nothing around it: by induction over the table of fields, for all sorts of what stands in
-- expressions outside statements, wherever a declaration isn't asked for.
use Rattle.std.proofs.Common.{◌≡◌, ℕ, zero, suc, refl, sym, ap, ◌∙◌, List, [], ◌∷◌, ◌++◌}
use Rattle.std.specs.Prelude.{Bool, true, false, not, ◌&&◌, ◌||◌, Option, Some, None, bytes_eq, codes, if◌then◌else◌}
use Rattle.std.specs.List.{list_all, list_any}
use Rattle.std.proofs.lemmas.Bool.{and_parts}
use Rattle.es_tree.specs.Attributes.{child_entries}
use Rattle.es_tree.specs.HasForm.{ElementsPlace, element_form, elements_by, elements_form, elements_of, field_form, fields_form, has_form, is_in, is_computed, is_of_sort, match_option, same_type, sort_at, sort_before_fields, sort_before_trees, trees_form}
use Rattle.es_tree.specs.Names.{first_text, is_name_place}
use Rattle.es_tree.specs.Table.{kinds_of, rest_sort}
use Rattle.es_tree.specs.Tree.{Tree, node, Label, Fields, done, ◌then◌, Field, missing, one, many, statements, Trees, empty, ◌before◌}
use Rattle.es_tree.specs.Words.{Text}
use Rattle.es_tree.specs.declared.ast_type.AstType.{AstType}
use Rattle.es_tree.specs.declared.ast_type.AstType.TheVariants.{ArrayPattern, ArrayTarget, ArrowFunctionExpression, AssignmentExpression, AssignmentPattern, CatchClause, ClassDeclaration, ClassExpression, ExportDefaultDeclaration, ExportNamedDeclaration, ExportSpecifier, ForInStatement, ForOfStatement, FunctionBody, FunctionDeclaration, FunctionExpression, Identifier, ImportDeclaration, ImportDefaultSpecifier, ImportNamespaceSpecifier, ImportSpecifier, MethodDefinition, ObjectPattern, ObjectTarget, ParenthesizedExpression, PatternProperty, Program, RestElement, StaticBlock, TargetProperty, TargetRest, TargetWithDefault, UpdateExpression, VariableDeclaration, VariableDeclarator}
use Rattle.es_tree.specs.declared.table.Content.{Content}
use Rattle.es_tree.specs.declared.table.Content.TheVariants.{Child as c-Child}
use Rattle.es_tree.specs.declared.table.Entry.{Entry}
use Rattle.es_tree.specs.declared.table.FieldName.{FieldName}
use Rattle.es_tree.specs.declared.table.Often.TheVariants.{Required, Optional, List as a-List, NonEmptyList, ListWithRest, Statements, Elements, ElementsWithRest}
use Rattle.es_tree.specs.declared.table.Sort.{Sort}
use Rattle.es_tree.specs.declared.table.Sort.TheVariants.{ArrowFunctionBody as s-ArrowFunctionBody, BinaryLeft as s-BinaryLeft, ClassElement as s-ClassElement, Expression as s-Expression, MemberProperty as s-MemberProperty, ObjectMember as s-ObjectMember, PatternMemberRest as s-PatternMemberRest, PatternRest as s-PatternRest, PropertyKey as s-PropertyKey, TargetElementRest as s-TargetElementRest, TargetMemberRest as s-TargetMemberRest, TemplateElement as s-TemplateElement}
use Rattle.es_tree.proofs.CoreBreaks.{among_kinds}
use Rattle.es_tree.proofs.NodeForm.{node_form}
use Rattle.es_semantic.specs.RolesOf.{member_role, reads, role_at}
use Rattle.es_semantic.specs.declared.place.Role.{Role}
use Rattle.es_semantic.specs.declared.place.Role.TheVariants.{Constructor, Member, Nothing}
use Rattle.es_resolution.specs.Declarations.{Bound, declared, declared_among, declared_by, declared_in, is_asked, is_var_scope, own_declared, reaches_out}
use Rattle.es_steps.specs.Open.{is_statement_body}
use Rattle.es_steps.specs.Steps.{IsExpression}
use Rattle.es_steps.proofs.FormLists.{narrower}
use Rattle.es_changes.specs.Laws.{LawExpression}

-- KINDS of what stands in expressions, outside statements

abbrev inner_sorts : List Sort
inner_sorts = s-ArrowFunctionBody ∷ s-BinaryLeft ∷ s-PatternRest ∷ s-PatternMemberRest ∷ s-TargetElementRest ∷ s-TargetMemberRest ∷ s-ClassElement ∷ s-PropertyKey ∷ s-ObjectMember ∷ s-TemplateElement ∷ []

abbrev is_inner : AstType → Bool
is_inner k = list_any (λ s. is_of_sort s k) inner_sorts

-- all kinds of the sort are such
abbrev holds_inner : Sort → Bool
holds_inner s = list_all is_inner (kinds_of s)

abbrev content_inner : Content → Bool
content_inner (c-Child s often) = holds_inner s && holds_inner (rest_sort s)
content_inner c = true

abbrev entries_inner : List Entry → Bool
entries_inner [] = true
entries_inner (e ∷ es) = content_inner e.content && entries_inner es

-- what stands inside such a kind, is such, but for the statements of bodies
all-inner : (k : AstType) → (is_var_scope k || (not (is_inner k) || entries_inner (child_entries k))) ≡ true
all-inner Program = refl
all-inner _ = refl

or-second : (a b : Bool) → (a || b) ≡ true → a ≡ false → b ≡ true
or-second true b e d = absurd (cc d)
or-second false b e d = e

not-true : (a : Bool) → a ≡ true → not a ≡ false
not-true a e = rw e refl

inside-inner : (k : AstType) → is_var_scope k ≡ false → is_inner k ≡ true → entries_inner (child_entries k) ≡ true
inside-inner k e d = or-second (not (is_inner k)) (entries_inner (child_entries k)) (or-second (is_var_scope k) (not (is_inner k) || entries_inner (child_entries k)) (all-inner k) e) (not-true (is_inner k) d)

sort-inner : (k : AstType) (l : Label) (s : Sort) → holds_inner s ≡ true → holds_inner (sort_at k l s) ≡ true
sort-inner k l s-PropertyKey h = at (is_computed k l)
  where
    at : (b : Bool) → holds_inner (if b then s-Expression else s-PropertyKey) ≡ true
    at true = refl
    at false = refl
sort-inner k l s-MemberProperty h = at (is_computed k l)
  where
    at : (b : Bool) → holds_inner (if b then s-Expression else s-MemberProperty) ≡ true
    at true = refl
    at false = refl
sort-inner k l s-BinaryLeft h = at (is_in k l)
  where
    at : (b : Bool) → holds_inner (if b then s-BinaryLeft else s-Expression) ≡ true
    at true = refl
    at false = refl
sort-inner k l s h = h

-- ROLES: a field whose declarations count asks for none, where the node doesn't

asked-place : (v b : Bool) → is_asked v (if b then reads else Nothing) ≡ false
asked-place v true = refl
asked-place v false = refl

asked-constructor : (v b derived : Bool) → is_asked v (if b then Constructor derived else Nothing) ≡ false
asked-constructor v true derived = refl
asked-constructor v false derived = refl

asked-member : (v : Bool) (word : Text) (r : Role) → is_asked v (member_role word r) ≡ false
asked-member v word (Member derived) = asked-constructor v (bytes_eq word (codes "constructor")) derived
asked-member v word _ = refl

role-asked : (v : Bool) (r : Role) (k : AstType) (l : Label) (fs : Fields) (i : ℕ) → is_inner k ≡ true → is_asked v r ≡ false → reaches_out v k i ≡ true → is_asked v (role_at r k l fs i) ≡ false
role-asked v r FunctionBody l fs (suc zero) e o d = refl
role-asked v r StaticBlock l fs zero e o d = refl
role-asked true r FunctionExpression l fs zero e o d = refl
role-asked false r FunctionExpression l fs zero e o d = refl
role-asked true r FunctionExpression l fs (suc zero) e o d = refl
role-asked false r FunctionExpression l fs (suc zero) e o d = absurd (cc d)
role-asked true r ArrowFunctionExpression l fs zero e o d = refl
role-asked false r ArrowFunctionExpression l fs zero e o d = absurd (cc d)
role-asked true r ClassExpression l fs zero e o d = refl
role-asked false r ClassExpression l fs zero e o d = absurd (cc d)
role-asked v r ClassExpression l fs (suc (suc zero)) e o d = refl
role-asked v r MethodDefinition l fs (suc zero) e o d = asked-member v (first_text l.texts) r
role-asked v r AssignmentExpression l fs zero e o d = refl
role-asked v r UpdateExpression l fs zero e o d = refl
role-asked v r ParenthesizedExpression l fs zero e o d = o
role-asked v r ObjectPattern l fs zero e o d = o
role-asked v r PatternProperty l fs (suc zero) e o d = o
role-asked v r ArrayPattern l fs i e o d = o
role-asked v r AssignmentPattern l fs zero e o d = o
role-asked v r RestElement l fs zero e o d = o
role-asked v r ObjectTarget l fs zero e o d = o
role-asked v r TargetProperty l fs (suc zero) e o d = o
role-asked v r ArrayTarget l fs i e o d = o
role-asked v r TargetWithDefault l fs zero e o d = o
role-asked v r TargetRest l fs zero e o d = o
role-asked v r Program l fs i e o d = absurd (cc e)
role-asked v r ExportNamedDeclaration l fs i e o d = absurd (cc e)
role-asked v r ExportDefaultDeclaration l fs i e o d = absurd (cc e)
role-asked v r VariableDeclaration l fs i e o d = absurd (cc e)
role-asked v r VariableDeclarator l fs i e o d = absurd (cc e)
role-asked v r FunctionDeclaration l fs i e o d = absurd (cc e)
role-asked v r ClassDeclaration l fs i e o d = absurd (cc e)
role-asked v r CatchClause l fs i e o d = absurd (cc e)
role-asked v r ImportSpecifier l fs i e o d = absurd (cc e)
role-asked v r ImportDefaultSpecifier l fs i e o d = absurd (cc e)
role-asked v r ImportNamespaceSpecifier l fs i e o d = absurd (cc e)
role-asked v r ExportSpecifier l fs i e o d = absurd (cc e)
role-asked v r ForInStatement l fs i e o d = absurd (cc e)
role-asked v r ForOfStatement l fs i e o d = absurd (cc e)
role-asked v r k l fs i e o d = asked-place v (is_name_place k l i)

-- WHAT IS DECLARED

own-none : (v : Bool) (r : Role) (k : AstType) (l : Label) → is_asked v r ≡ false → own_declared v r k l ≡ []
own-none v r Identifier l o = rw o refl
own-none v r k l o = refl

-- in a body nothing is declared around it
abbrev NoneCounts : Bool → AstType → Type 0
NoneCounts v k = (i : ℕ) → reaches_out v k i ≡ false

scope-counts : (v : Bool) (k : AstType) → is_inner k ≡ true → is_var_scope k ≡ true → NoneCounts v k
scope-counts v Program e d i = absurd (cc e)
scope-counts true FunctionBody e d i = refl
scope-counts false FunctionBody e d i = refl
scope-counts true StaticBlock e d i = refl
scope-counts false StaticBlock e d i = refl
scope-counts v k e d i = absurd (cc d)

nothing-counts : (v : Bool) (counts : ℕ → Bool) (roles : ℕ → Role) (fs : Fields) → ((i : ℕ) → counts i ≡ false) → declared_in v counts roles fs ≡ []
nothing-counts v counts roles done none = refl
nothing-counts v counts roles (f then fs) none = rw (none zero) (nothing-counts v (λ i. counts (suc i)) (λ i. roles (suc i)) fs (λ i. none (suc i)))

if-none : (b : Bool) (bs cs : List Bound) → (b ≡ true → bs ≡ []) → cs ≡ [] → (if b then bs else []) ++ cs ≡ []
if-none true bs cs h k = (λ i. h refl i ++ k i)
if-none false bs cs h k = k

-- the roles of those fields that count ask for no declaration
abbrev Unasked : Bool → (ℕ → Bool) → (ℕ → Role) → Type 0
Unasked v counts roles = (i : ℕ) → counts i ≡ true → is_asked v (roles i) ≡ false

before-trees-inner : (s last : Sort) (ts : Trees) → holds_inner s ≡ true → holds_inner last ≡ true → holds_inner (sort_before_trees s last ts) ≡ true
before-trees-inner s last empty a b = b
before-trees-inner s last (t before ts) a b = a

before-fields-inner : (s last : Sort) (fs : Fields) → holds_inner s ≡ true → holds_inner last ≡ true → holds_inner (sort_before_fields s last fs) ≡ true
before-fields-inner s last done a b = b
before-fields-inner s last (f then fs) a b = a

place-inner : (f : FieldName) (c : Content) (p : ElementsPlace) → elements_by f c ≡ Some p → content_inner c ≡ true → (holds_inner p.sort ≡ true) × (holds_inner p.last ≡ true)
place-inner f (c-Child s Elements) p e d =
    let q = and_parts (holds_inner s) (holds_inner (rest_sort s)) d in
    (sym (ap (λ o. match_option o true (λ p. holds_inner p.sort)) e) ∙ q.0, sym (ap (λ o. match_option o true (λ p. holds_inner p.last)) e) ∙ q.0)
place-inner f (c-Child s ElementsWithRest) p e d =
    let q = and_parts (holds_inner s) (holds_inner (rest_sort s)) d in
    (sym (ap (λ o. match_option o true (λ p. holds_inner p.sort)) e) ∙ q.0, sym (ap (λ o. match_option o true (λ p. holds_inner p.last)) e) ∙ q.1)
place-inner f c p e d = absurd (cc e)

elements-inner : (es : List Entry) (p : ElementsPlace) → elements_of es ≡ Some p → entries_inner es ≡ true → (holds_inner p.sort ≡ true) × (holds_inner p.last ≡ true)
elements-inner [] p e d = absurd (cc e)
elements-inner (a ∷ []) p e d = place-inner a.field a.content p e (and_parts (content_inner a.content) true d).0
elements-inner (a ∷ (b ∷ es)) p e d = absurd (cc e)

by-scope : (b : Bool) (bs : List Bound) → (b ≡ true → bs ≡ []) → (b ≡ false → bs ≡ []) → bs ≡ []
by-scope true bs at_scope at_other = at_scope refl
by-scope false bs at_scope at_other = at_other refl

-- a node whose fields declare nothing, by the table or as the elements of an array
module _ (v : Bool) (r : Role) (k : AstType) (l : Label) (fs : Fields) where
  abbrev DeclaresNone : Type 0
  DeclaresNone = declared_in v (reaches_out v k) (role_at r k l fs) fs ≡ []

  abbrev ByEntries : Type 0
  ByEntries = Unasked v (reaches_out v k) (role_at r k l fs) → entries_inner (child_entries k) ≡ true → fields_form k l (child_entries k) fs ≡ true → DeclaresNone

  abbrev ByElements : Type 0
  ByElements = (s last : Sort) → Unasked v (reaches_out v k) (role_at r k l fs) → holds_inner s ≡ true → holds_inner last ≡ true → elements_form s last fs ≡ true → DeclaresNone

  fields-none : ByEntries → ByElements → is_asked v r ≡ false → is_inner k ≡ true → entries_inner (child_entries k) ≡ true → (p : Option ElementsPlace) → elements_of (child_entries k) ≡ p → match_option p (fields_form k l (child_entries k) fs) (λ p. elements_form p.sort p.last fs) ≡ true → DeclaresNone
  fields-none entries elements o e d None q h = entries (λ i c. role-asked v r k l fs i e o c) d h
  fields-none entries elements o e d (Some p) q h = let both = elements-inner (child_entries k) p q d in elements p.sort p.last (λ i c. role-asked v r k l fs i e o c) both.0 both.1 h

  node-none : ByEntries → ByElements → (s : Sort) → is_asked v r ≡ false → holds_inner s ≡ true → has_form s (node k l fs) ≡ true → declared v r (node k l fs) ≡ []
  node-none entries elements s o inner h =
      let m = node_form s k l fs h in
      let e = among_kinds is_inner k (kinds_of s) m.sort inner in
      let rest : DeclaresNone = by-scope (is_var_scope k) (declared_in v (reaches_out v k) (role_at r k l fs) fs) (λ b. nothing-counts v (reaches_out v k) (role_at r k l fs) fs (scope-counts v k e b)) (λ b. fields-none entries elements o e (inside-inner k b e) (elements_of (child_entries k)) refl m.children) in
      λ i. own-none v r k l o i ++ rest i

mutual
  pub declares-none : (v : Bool) (r : Role) (s : Sort) (t : Tree) → is_asked v r ≡ false → holds_inner s ≡ true → has_form s t ≡ true → declared v r t ≡ []
  declares-none v r s (node k l fs) o inner h =
      node-none v r k l fs (λ u e d. entries-none v (reaches_out v k) (role_at r k l fs) k l (child_entries k) fs u e d)
      (λ a last u b c d. elements-none v (reaches_out v k) (role_at r k l fs) a last fs u b c d) s o inner h

  entries-none : (v : Bool) (counts : ℕ → Bool) (roles : ℕ → Role) (k : AstType) (l : Label) (es : List Entry) (fs : Fields) → Unasked v counts roles → entries_inner es ≡ true → fields_form k l es fs ≡ true → declared_in v counts roles fs ≡ []
  entries-none v counts roles k l [] done o e h = refl
  entries-none v counts roles k l [] (f then fs) o e h = absurd (cc h)
  entries-none v counts roles k l (x ∷ es) done o e h = refl
  entries-none v counts roles k l (x ∷ es) (f then fs) o e h =
      let parts = and_parts (field_form k l x.content f) (fields_form k l es fs) h in
      let inner = and_parts (content_inner x.content) (entries_inner es) e in
      if-none (counts zero) (declared_by v (roles zero) f) (declared_in v (λ i. counts (suc i)) (λ i. roles (suc i)) fs) (λ c. content-none v (roles zero) k l x.content f (o zero c) inner.0 parts.0) (entries-none v (λ i. counts (suc i)) (λ i. roles (suc i)) k l es fs (λ i. o (suc i)) inner.1 parts.1)

  content-none : (v : Bool) (r : Role) (k : AstType) (l : Label) (c : Content) (f : Field) → is_asked v r ≡ false → content_inner c ≡ true → field_form k l c f ≡ true → declared_by v r f ≡ []
  content-none v r k l (c-Child s Required) (one t) o e h = declares-none v r (sort_at k l s) t o (sort-inner k l s (and_parts (holds_inner s) (holds_inner (rest_sort s)) e).0) h
  content-none v r k l (c-Child s Optional) missing o e h = refl
  content-none v r k l (c-Child s Optional) (one t) o e h = declares-none v r (sort_at k l s) t o (sort-inner k l s (and_parts (holds_inner s) (holds_inner (rest_sort s)) e).0) h
  content-none v r k l (c-Child s a-List) (many ts) o e h = let q = and_parts (holds_inner s) (holds_inner (rest_sort s)) e in trees-none v r s s ts o q.0 q.0 h
  content-none v r k l (c-Child s NonEmptyList) (many empty) o e h = refl
  content-none v r k l (c-Child s NonEmptyList) (many (t before ts)) o e h = let q = and_parts (holds_inner s) (holds_inner (rest_sort s)) e in trees-none v r s s (t before ts) o q.0 q.0 h
  content-none v r k l (c-Child s ListWithRest) (many ts) o e h = let q = and_parts (holds_inner s) (holds_inner (rest_sort s)) e in trees-none v r s (rest_sort s) ts o q.0 q.1 h
  content-none v r k l (c-Child s Statements) (statements ts) o e h = let q = and_parts (holds_inner s) (holds_inner (rest_sort s)) e in trees-none v r s s ts o q.0 q.0 h
  content-none v r k l c f o e h = absurd (cc h)

  trees-none : (v : Bool) (r : Role) (s last : Sort) (ts : Trees) → is_asked v r ≡ false → holds_inner s ≡ true → holds_inner last ≡ true → trees_form s last ts ≡ true → declared_among v r ts ≡ []
  trees-none v r s last empty o a b h = refl
  trees-none v r s last (t before ts) o a b h =
      let parts = and_parts (has_form (sort_before_trees s last ts) t) (trees_form s last ts) h in
      λ i. declares-none v r (sort_before_trees s last ts) t o (before-trees-inner s last ts a b) parts.0 i ++ trees-none v r s last ts o a b parts.1 i

  elements-none : (v : Bool) (counts : ℕ → Bool) (roles : ℕ → Role) (s last : Sort) (fs : Fields) → Unasked v counts roles → holds_inner s ≡ true → holds_inner last ≡ true → elements_form s last fs ≡ true → declared_in v counts roles fs ≡ []
  elements-none v counts roles s last done o a b h = refl
  elements-none v counts roles s last (f then fs) o a b h =
      let parts = and_parts (element_form (sort_before_fields s last fs) f) (elements_form s last fs) h in
      if-none (counts zero) (declared_by v (roles zero) f) (declared_in v (λ i. counts (suc i)) (λ i. roles (suc i)) fs) (λ c. element-none v (roles zero) (sort_before_fields s last fs) f (o zero c) (before-fields-inner s last fs a b) parts.0) (elements-none v (λ i. counts (suc i)) (λ i. roles (suc i)) s last fs (λ i. o (suc i)) a b parts.1)

  element-none : (v : Bool) (r : Role) (s : Sort) (f : Field) → is_asked v r ≡ false → holds_inner s ≡ true → element_form s f ≡ true → declared_by v r f ≡ []
  element-none v r s missing o e h = refl
  element-none v r s (one t) o e h = declares-none v r s t o e h
  element-none v r s (many ts) o e h = absurd (cc h)
  element-none v r s (statements ts) o e h = absurd (cc h)

-- EXPRESSIONS

abbrev is_bare : AstType → Bool
is_bare k = not (is_var_scope k) && not (same_type k ImportDeclaration)

not-false : (a : Bool) → not a ≡ true → a ≡ false
not-false true e = absurd (cc e)
not-false false e = refl

pub law_expression_proof : LawExpression
law_expression_proof (node k l fs) h =
    let bare = among_kinds is_bare k (kinds_of s-Expression) (node_form s-Expression k l fs h).sort refl in
    let parts = and_parts (not (is_var_scope k)) (not (same_type k ImportDeclaration)) bare in
    record { no_body = not-false (is_var_scope k) parts.0; no_import = not-false (same_type k ImportDeclaration) parts.1; declares_nothing = λ v. declares-none v reads s-Expression (node k l fs) refl refl h }

-- the body of an arrow that isn't one of statements
body-scope : (k : AstType) (l : Label) (fs : Fields) → is_of_sort s-ArrowFunctionBody k ≡ true → is_statement_body (node k l fs) ≡ false → is_var_scope k ≡ false
body-scope Program l fs h e = absurd (cc h)
body-scope StaticBlock l fs h e = absurd (cc h)
body-scope FunctionBody l fs h e = absurd (cc e)
body-scope k l fs h e = refl

pub body-formed : (t : Tree) → has_form s-ArrowFunctionBody t ≡ true → is_statement_body t ≡ false → has_form s-Expression t ≡ true
body-formed (node k l fs) h e = narrower (node k l fs) (body-scope k l fs (node_form s-ArrowFunctionBody k l fs h).sort e) h

pub body-expression : (t : Tree) → has_form s-ArrowFunctionBody t ≡ true → is_statement_body t ≡ false → IsExpression t
body-expression t h e = law_expression_proof t (body-formed t h e)
