-- What stands in expressions and patterns, outside functions and static blocks: what holds of each tree of such a kind in whose fields it holds,
-- holds of each tree of such a sort. By induction over the table of fields: no list of statements stands there.
use Rattle.std.proofs.Common.{◌≡◌, refl, sym, ap, ◌∙◌, List, [], ◌∷◌, ℕ, suc, zero}
use Rattle.std.specs.Prelude.{Bool, true, false, not, ◌&&◌, ◌||◌, Option, Some, None, if◌then◌else◌}
use Rattle.std.specs.List.{list_all, list_any}
use Rattle.std.proofs.lemmas.Bool.{and_parts}
use Rattle.es_tree.specs.Attributes.{child_entries}
use Rattle.es_tree.specs.HasForm.{ElementsPlace, element_form, elements_by, elements_form, elements_of, field_form, fields_form, has_form, is_in, is_computed, is_of_sort, match_option, sort_at, sort_before_fields, sort_before_trees, trees_form}
use Rattle.es_tree.specs.Table.{kinds_of, rest_sort}
use Rattle.es_tree.specs.Tree.{Tree, node, Label, Fields, done, ◌then◌, Field, missing, one, many, statements, Trees, empty, ◌before◌}
use Rattle.es_tree.specs.declared.ast_type.AstType.{AstType}
use Rattle.es_tree.specs.declared.ast_type.AstType.TheVariants.{Program}
use Rattle.es_tree.specs.declared.table.Content.{Content}
use Rattle.es_tree.specs.declared.table.Content.TheVariants.{Child as c-Child}
use Rattle.es_tree.specs.declared.table.Entry.{Entry}
use Rattle.es_tree.specs.declared.table.FieldName.{FieldName}
use Rattle.es_tree.specs.declared.table.Often.TheVariants.{Required, Optional, List as a-List, NonEmptyList, ListWithRest, Statements, Elements, ElementsWithRest}
use Rattle.es_tree.specs.declared.table.Sort.{Sort}
use Rattle.es_tree.specs.declared.table.Sort.TheVariants.{ArrowFunctionBody as s-ArrowFunctionBody, BinaryLeft as s-BinaryLeft, ClassElement as s-ClassElement, Expression as s-Expression, MemberProperty as s-MemberProperty, ObjectMember as s-ObjectMember, PatternMemberRest as s-PatternMemberRest, PatternRest as s-PatternRest, PropertyKey as s-PropertyKey, TargetElementRest as s-TargetElementRest, TargetMemberRest as s-TargetMemberRest, TemplateElement as s-TemplateElement}
use Rattle.es_tree.proofs.CoreBreaks.{among_kinds}
use Rattle.es_tree.proofs.NodeForm.{node_form}
use Rattle.es_resolution.specs.Declarations.{is_var_scope}
use Rattle.es_steps.specs.Open.{is_body}

-- KINDS of what stands in expressions, outside statements

abbrev inner_sorts : List Sort
inner_sorts = s-ArrowFunctionBody ∷ s-BinaryLeft ∷ s-PatternRest ∷ s-PatternMemberRest ∷ s-TargetElementRest ∷ s-TargetMemberRest ∷ s-ClassElement ∷ s-PropertyKey ∷ s-ObjectMember ∷ s-TemplateElement ∷ []

abbrev pub is_inner : AstType → Bool
is_inner k = list_any (λ s. is_of_sort s k) inner_sorts

-- all kinds of the sort are such
abbrev pub holds_inner : Sort → Bool
holds_inner s = list_all is_inner (kinds_of s)

-- no list of statements is
abbrev content_inner : Content → Bool
content_inner (c-Child s Statements) = false
content_inner (c-Child s often) = holds_inner s && holds_inner (rest_sort s)
content_inner c = true

abbrev entries_inner : List Entry → Bool
entries_inner [] = true
entries_inner (e ∷ es) = content_inner e.content && entries_inner es

-- what stands inside such a kind is such, but for the statements of bodies
all-inner : (k : AstType) → (is_var_scope k || (not (is_inner k) || entries_inner (child_entries k))) ≡ true
all-inner Program = refl
all-inner _ = refl

or-second : (a b : Bool) → (a || b) ≡ true → a ≡ false → b ≡ true
or-second true b e d = absurd (cc d)
or-second false b e d = e

not-true : (a : Bool) → a ≡ true → not a ≡ false
not-true a e = rw e refl

inside-inner : (k : AstType) → is_var_scope k ≡ false → is_inner k ≡ true → entries_inner (child_entries k) ≡ true
inside-inner k e d = or-second (not (is_inner k)) (entries_inner (child_entries k)) (or-second (is_var_scope k) (not (is_inner k) || entries_inner (child_entries k)) (all-inner k) e) (not-true (is_inner k) d)

sort-inner : (k : AstType) (l : Label) (s : Sort) → holds_inner s ≡ true → holds_inner (sort_at k l s) ≡ true
sort-inner k l s-PropertyKey h = at (is_computed k l)
  where
    at : (b : Bool) → holds_inner (if b then s-Expression else s-PropertyKey) ≡ true
    at true = refl
    at false = refl
sort-inner k l s-MemberProperty h = at (is_computed k l)
  where
    at : (b : Bool) → holds_inner (if b then s-Expression else s-MemberProperty) ≡ true
    at true = refl
    at false = refl
sort-inner k l s-BinaryLeft h = at (is_in k l)
  where
    at : (b : Bool) → holds_inner (if b then s-BinaryLeft else s-Expression) ≡ true
    at true = refl
    at false = refl
sort-inner k l s h = h

before-trees-inner : (s last : Sort) (ts : Trees) → holds_inner s ≡ true → holds_inner last ≡ true → holds_inner (sort_before_trees s last ts) ≡ true
before-trees-inner s last empty a b = b
before-trees-inner s last (t before ts) a b = a

before-fields-inner : (s last : Sort) (fs : Fields) → holds_inner s ≡ true → holds_inner last ≡ true → holds_inner (sort_before_fields s last fs) ≡ true
before-fields-inner s last done a b = b
before-fields-inner s last (f then fs) a b = a

place-inner : (f : FieldName) (c : Content) (p : ElementsPlace) → elements_by f c ≡ Some p → content_inner c ≡ true → (holds_inner p.sort ≡ true) × (holds_inner p.last ≡ true)
place-inner f (c-Child s Elements) p e d =
    let q = and_parts (holds_inner s) (holds_inner (rest_sort s)) d in
    (sym (ap (λ o. match_option o true (λ p. holds_inner p.sort)) e) ∙ q.0, sym (ap (λ o. match_option o true (λ p. holds_inner p.last)) e) ∙ q.0)
place-inner f (c-Child s ElementsWithRest) p e d =
    let q = and_parts (holds_inner s) (holds_inner (rest_sort s)) d in
    (sym (ap (λ o. match_option o true (λ p. holds_inner p.sort)) e) ∙ q.0, sym (ap (λ o. match_option o true (λ p. holds_inner p.last)) e) ∙ q.1)
place-inner f c p e d = absurd (cc e)

elements-inner : (es : List Entry) (p : ElementsPlace) → elements_of es ≡ Some p → entries_inner es ≡ true → (holds_inner p.sort ≡ true) × (holds_inner p.last ≡ true)
elements-inner [] p e d = absurd (cc e)
elements-inner (a ∷ []) p e d = place-inner a.field a.content p e (and_parts (content_inner a.content) true d).0
elements-inner (a ∷ (b ∷ es)) p e d = absurd (cc e)

-- WHAT SPREADS to a tree of such a kind from what stands in it, where it isn't a function's body or a static block

pub record Spreads (T : Tree → Type 0) (In : (ℕ → Bool) → Fields → Type 0) (By : Bool → Field → Type 0) (Among : Trees → Type 0) : Type 0 where
  pub at_node : (k : AstType) (l : Label) (fs : Fields) → is_inner k ≡ true → (is_var_scope k ≡ false → In (is_body k) fs) → T (node k l fs)
  pub at_done : (bodies : ℕ → Bool) → In bodies done
  pub at_then : (bodies : ℕ → Bool) (f : Field) (fs : Fields) → By (bodies zero) f → In (λ i. bodies (suc i)) fs → In bodies (f then fs)
  pub at_missing : (b : Bool) → By b missing
  pub at_one : (b : Bool) (t : Tree) → T t → By b (one t)
  pub at_many : (b : Bool) (ts : Trees) → Among ts → By b (many ts)
  pub at_empty : Among empty
  pub at_before : (t : Tree) (ts : Trees) → T t → Among ts → Among (t before ts)

module _ (T : Tree → Type 0) (In : (ℕ → Bool) → Fields → Type 0) (By : Bool → Field → Type 0) (Among : Trees → Type 0) (spreads : Spreads T In By Among) where
  children-inside : (k : AstType) (l : Label) (fs : Fields) → (entries_inner (child_entries k) ≡ true → fields_form k l (child_entries k) fs ≡ true → In (is_body k) fs) →
      ((s last : Sort) → holds_inner s ≡ true → holds_inner last ≡ true → elements_form s last fs ≡ true → In (is_body k) fs) →
      entries_inner (child_entries k) ≡ true → (o : Option ElementsPlace) → elements_of (child_entries k) ≡ o → match_option o (fields_form k l (child_entries k) fs) (λ p. elements_form p.sort p.last fs) ≡ true → In (is_body k) fs
  children-inside k l fs entries elements inner None q h = entries inner h
  children-inside k l fs entries elements inner (Some p) q h = let both = elements-inner (child_entries k) p q inner in elements p.sort p.last both.0 both.1 h

  mutual
    pub tree-holds : (s : Sort) (t : Tree) → holds_inner s ≡ true → has_form s t ≡ true → T t
    tree-holds s (node k l fs) inner h =
        let f = node_form s k l fs h in
        let e = among_kinds is_inner k (kinds_of s) f.sort inner in
        spreads.at_node k l fs e (λ b. children-inside k l fs (λ i c. entries-inside (is_body k) k l (child_entries k) fs i c) (λ a last i j c. elements-inside (is_body k) a last fs i j c) (inside-inner k b e) (elements_of (child_entries k)) refl f.children)

    entries-inside : (bodies : ℕ → Bool) (k : AstType) (l : Label) (es : List Entry) (fs : Fields) → entries_inner es ≡ true → fields_form k l es fs ≡ true → In bodies fs
    entries-inside bodies k l [] done e h = spreads.at_done bodies
    entries-inside bodies k l [] (f then fs) e h = absurd (cc h)
    entries-inside bodies k l (y ∷ es) done e h = spreads.at_done bodies
    entries-inside bodies k l (y ∷ es) (f then fs) e h =
        let parts = and_parts (field_form k l y.content f) (fields_form k l es fs) h in
        let inner = and_parts (content_inner y.content) (entries_inner es) e in
        spreads.at_then bodies f fs (content-inside (bodies zero) k l y.content f inner.0 parts.0) (entries-inside (λ i. bodies (suc i)) k l es fs inner.1 parts.1)

    content-inside : (b : Bool) (k : AstType) (l : Label) (c : Content) (f : Field) → content_inner c ≡ true → field_form k l c f ≡ true → By b f
    content-inside b k l (c-Child s Required) (one t) e h = spreads.at_one b t (tree-holds (sort_at k l s) t (sort-inner k l s (and_parts (holds_inner s) (holds_inner (rest_sort s)) e).0) h)
    content-inside b k l (c-Child s Optional) missing e h = spreads.at_missing b
    content-inside b k l (c-Child s Optional) (one t) e h = spreads.at_one b t (tree-holds (sort_at k l s) t (sort-inner k l s (and_parts (holds_inner s) (holds_inner (rest_sort s)) e).0) h)
    content-inside b k l (c-Child s a-List) (many ts) e h = let q = and_parts (holds_inner s) (holds_inner (rest_sort s)) e in spreads.at_many b ts (trees-inside s s ts q.0 q.0 h)
    content-inside b k l (c-Child s NonEmptyList) (many empty) e h = absurd (cc h)
    content-inside b k l (c-Child s NonEmptyList) (many (t before ts)) e h = let q = and_parts (holds_inner s) (holds_inner (rest_sort s)) e in spreads.at_many b (t before ts) (trees-inside s s (t before ts) q.0 q.0 h)
    content-inside b k l (c-Child s ListWithRest) (many ts) e h = let q = and_parts (holds_inner s) (holds_inner (rest_sort s)) e in spreads.at_many b ts (trees-inside s (rest_sort s) ts q.0 q.1 h)
    content-inside b k l (c-Child s Statements) (statements ts) e h = absurd (cc e)
    content-inside b k l c f e h = absurd (cc h)

    trees-inside : (s last : Sort) (ts : Trees) → holds_inner s ≡ true → holds_inner last ≡ true → trees_form s last ts ≡ true → Among ts
    trees-inside s last empty a b h = spreads.at_empty
    trees-inside s last (t before ts) a b h =
        let parts = and_parts (has_form (sort_before_trees s last ts) t) (trees_form s last ts) h in
        spreads.at_before t ts (tree-holds (sort_before_trees s last ts) t (before-trees-inner s last ts a b) parts.0) (trees-inside s last ts a b parts.1)

    elements-inside : (bodies : ℕ → Bool) (s last : Sort) (fs : Fields) → holds_inner s ≡ true → holds_inner last ≡ true → elements_form s last fs ≡ true → In bodies fs
    elements-inside bodies s last done a b h = spreads.at_done bodies
    elements-inside bodies s last (f then fs) a b h =
        let parts = and_parts (element_form (sort_before_fields s last fs) f) (elements_form s last fs) h in
        spreads.at_then bodies f fs (element-inside (bodies zero) (sort_before_fields s last fs) f (before-fields-inner s last fs a b) parts.0) (elements-inside (λ i. bodies (suc i)) s last fs a b parts.1)

    element-inside : (b : Bool) (s : Sort) (f : Field) → holds_inner s ≡ true → element_form s f ≡ true → By b f
    element-inside b s missing e h = spreads.at_missing b
    element-inside b s (one t) e h = spreads.at_one b t (tree-holds s t e h)
    element-inside b s (many ts) e h = absurd (cc h)
    element-inside b s (statements ts) e h = absurd (cc h)
