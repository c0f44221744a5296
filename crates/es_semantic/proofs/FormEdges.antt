-- What may stand in the fields of a node of a program that has form: a test of a node's kind, the number of a field, whether it
-- is one node and the last field, and the kind of what stands there. Where the table of fields passes the test, so does each
-- program that has form.
use Rattle.std.proofs.Common.{◌≡◌, ℕ, suc, refl, sym, ap, subst, ◌∙◌, List, [], ◌∷◌}
use Rattle.std.specs.Prelude.{Bool, true, false, ◌||◌, ◌&&◌, Option, Some, None, if◌then◌else◌}
use Rattle.std.specs.List.{list_any, list_all}
use Rattle.std.proofs.lemmas.Bool.{and_parts, eqb-true}
use Rattle.es_tree.specs.Tree.{Tree, node, Label, Fields, done, ◌then◌, Field, missing, one, many, statements, Trees, empty, ◌before◌, type_number, type_at, type_at-number}
use Rattle.es_tree.specs.Table.{kinds_of, rest_sort}
use Rattle.es_tree.specs.Attributes.{child_entries}
use Rattle.es_tree.specs.HasForm.{ElementsPlace, elements_of, same_type, is_computed, is_in, sort_at, sort_before_trees, sort_before_fields, match_option, has_form, elements_form, element_form, fields_form, field_form, trees_form}
use Rattle.es_tree.specs.declared.ast_type.AstType.{AstType}
use Rattle.es_tree.specs.declared.table.Entry.{Entry}
use Rattle.es_tree.specs.declared.table.Sort.{Sort}
use Rattle.es_tree.specs.declared.table.Sort.TheVariants.{Expression as s-Expression, PropertyKey as s-PropertyKey, MemberProperty as s-MemberProperty, BinaryLeft as s-BinaryLeft}
use Rattle.es_tree.specs.declared.table.Often.TheVariants.{Required, Optional, List as a-List, NonEmptyList, ListWithRest, Statements}
use Rattle.es_tree.specs.declared.table.Content.{Content}
use Rattle.es_tree.specs.declared.table.Content.TheVariants.{Child as c-Child}
use Rattle.es_tree.proofs.NodeForm.{node_form}

-- KINDS OF A SORT

pub same-kind : (j k : AstType) → same_type j k ≡ true → j ≡ k
same-kind j k h = sym (type_at-number j) ∙ (ap type_at (eqb-true (type_number j) (type_number k) h) ∙ type_at-number k)

all-of : (q : AstType → Bool) (j : AstType) (ks : List AstType) → list_any (same_type j) ks ≡ true → list_all q ks ≡ true → q j ≡ true
all-of q j [] h e = absurd (cc h)
all-of q j (k ∷ ks) h e = at (same_type j k) refl h (λ f. all-of q j ks f (and_parts (q k) (list_all q ks) e).1)
  where
    at : (b : Bool) → same_type j k ≡ b → (b || list_any (same_type j) ks) ≡ true → (list_any (same_type j) ks ≡ true → q j ≡ true) → q j ≡ true
    at true d f g = ap q (same-kind j k d) ∙ (and_parts (q k) (list_all q ks) e).0
    at false d f g = g f

pub by-option : (o : Option ElementsPlace) (a : Bool) (f : ElementsPlace → Bool) (P : Type 0) → match_option o a f ≡ true → (a ≡ true → P) → ((p : ElementsPlace) → o ≡ Some p → f p ≡ true → P) → P
by-option None a f P h g e = g h
by-option (Some p) a f P h g e = e p refl h

abbrev pub is_last : Fields → Bool
is_last done = true
is_last (f then fs) = false

abbrev pub no_more : List Entry → Bool
no_more [] = true
no_more (e ∷ es) = false

same-end : (k : AstType) (l : Label) (es : List Entry) (fs : Fields) → fields_form k l es fs ≡ true → no_more es ≡ is_last fs
same-end k l [] done h = refl
same-end k l (e ∷ es) (f then fs) h = refl
same-end k l [] (f then fs) h = absurd (cc h)
same-end k l (e ∷ es) done h = absurd (cc h)

-- THE TEST OF A TREE

abbrev pub EdgeTest : Type 0
EdgeTest = AstType → ℕ → Bool → AstType → Bool

abbrev mutual
  -- what stands in the field i of a node of the kind k passes, and so on inwards
  pub Edges : EdgeTest → AstType → ℕ → Bool → Tree → Type 0
  Edges fits k i last (node j l fs) = (fits k i last j ≡ true) × EdgesIn fits j 0 fs

  -- the fields of a node of this kind, from the i-th on
  pub EdgesIn : EdgeTest → AstType → ℕ → Fields → Type 0
  EdgesIn fits k i done = Unit {0}
  EdgesIn fits k i (f then fs) = EdgesBy fits k i (is_last fs) f × EdgesIn fits k (suc i) fs

  pub EdgesBy : EdgeTest → AstType → ℕ → Bool → Field → Type 0
  EdgesBy fits k i last missing = Unit {0}
  EdgesBy fits k i last (one t) = Edges fits k i last t
  EdgesBy fits k i last (many ts) = EdgesAll fits k i ts
  EdgesBy fits k i last (statements ts) = EdgesAll fits k i ts

  pub EdgesAll : EdgeTest → AstType → ℕ → Trees → Type 0
  EdgesAll fits k i empty = Unit {0}
  EdgesAll fits k i (t before ts) = Edges fits k i false t × EdgesAll fits k i ts

-- THE TEST OF THE TABLE: each kind of a field's sort passes

abbrev pub sort_fits : EdgeTest → AstType → ℕ → Bool → Sort → Bool
sort_fits fits k i last s = list_all (fits k i last) (kinds_of s)

-- the sort of a place that is any expression where it is computed, or beside no `in`
abbrev pub widest : Sort → Sort
widest s-PropertyKey = s-Expression
widest s-MemberProperty = s-Expression
widest s-BinaryLeft = s-Expression
widest s = s

abbrev pub place_fits : EdgeTest → AstType → ℕ → Bool → Sort → Bool
place_fits fits k i last s = sort_fits fits k i last s && sort_fits fits k i last (widest s)

abbrev pub content_fits : EdgeTest → AstType → ℕ → Bool → Content → Bool
content_fits fits k i last (c-Child s Required) = place_fits fits k i last s
content_fits fits k i last (c-Child s Optional) = place_fits fits k i last s
content_fits fits k i last (c-Child s a-List) = sort_fits fits k i false s
content_fits fits k i last (c-Child s NonEmptyList) = sort_fits fits k i false s
content_fits fits k i last (c-Child s ListWithRest) = sort_fits fits k i false s && sort_fits fits k i false (rest_sort s)
content_fits fits k i last (c-Child s Statements) = sort_fits fits k i false s
content_fits fits k i last _ = true

abbrev pub entries_fit : EdgeTest → AstType → ℕ → List Entry → Bool
entries_fit fits k i [] = true
entries_fit fits k i (e ∷ es) = content_fits fits k i (no_more es) e.content && entries_fit fits k (suc i) es

-- the elements of an array: each kind of their sorts passes, whatever the field
pub record ElementsFit (fits : EdgeTest) (k : AstType) (p : ElementsPlace) : Type 0 where
  pub sort : (i : ℕ) (b : Bool) → sort_fits fits k i b p.sort ≡ true
  pub last : (i : ℕ) (b : Bool) → sort_fits fits k i b p.last ≡ true

pub elements-are : (fits : EdgeTest) (k : AstType) (a p : ElementsPlace) → ◌≡◌ {A = Option ElementsPlace} (Some a) (Some p) → ElementsFit fits k a → ElementsFit fits k p
elements-are fits k a p e h = let same : a ≡ p = cc e in subst (λ q. ElementsFit fits k q) same h

-- what the table has to pass
pub record TableFits (fits : EdgeTest) : Type 0 where
  pub entries : (k : AstType) → entries_fit fits k 0 (child_entries k) ≡ true
  pub elements : (k : AstType) (p : ElementsPlace) → elements_of (child_entries k) ≡ Some p → ElementsFit fits k p

module _ (fits : EdgeTest) (table : TableFits fits) where
  either-fits : (k : AstType) (i : ℕ) (b : Bool) (c : Bool) (s t : Sort) → sort_fits fits k i b s ≡ true → sort_fits fits k i b t ≡ true → sort_fits fits k i b (if c then s else t) ≡ true
  either-fits k i b true s t h e = h
  either-fits k i b false s t h e = e

  at-fits : (k : AstType) (i : ℕ) (b : Bool) (l : Label) (s : Sort) → sort_fits fits k i b s ≡ true → sort_fits fits k i b (widest s) ≡ true → sort_fits fits k i b (sort_at k l s) ≡ true
  at-fits k i b l s-PropertyKey h w = either-fits k i b (is_computed k l) s-Expression s-PropertyKey w h
  at-fits k i b l s-MemberProperty h w = either-fits k i b (is_computed k l) s-Expression s-MemberProperty w h
  at-fits k i b l s-BinaryLeft h w = either-fits k i b (is_in k l) s-BinaryLeft s-Expression h w
  at-fits k i b l _ h w = h

  pub place-fits : (k : AstType) (i : ℕ) (b : Bool) (l : Label) (s : Sort) → place_fits fits k i b s ≡ true → sort_fits fits k i b (sort_at k l s) ≡ true
  place-fits k i b l s h =
      let both = and_parts (sort_fits fits k i b s) (sort_fits fits k i b (widest s)) h in
      at-fits k i b l s both.0 both.1

  before-trees : (k : AstType) (i : ℕ) (s last : Sort) (ts : Trees) → sort_fits fits k i false s ≡ true → sort_fits fits k i false last ≡ true → sort_fits fits k i false (sort_before_trees s last ts) ≡ true
  before-trees k i s last empty h e = e
  before-trees k i s last (t before ts) h e = h

  before-fields : (k : AstType) (i : ℕ) (b : Bool) (s last : Sort) (fs : Fields) → sort_fits fits k i b s ≡ true → sort_fits fits k i b last ≡ true → sort_fits fits k i b (sort_before_fields s last fs) ≡ true
  before-fields k i b s last done h e = e
  before-fields k i b s last (f then fs) h e = h

  mutual
    pub edges-tree : (above : AstType) (i : ℕ) (last : Bool) (s : Sort) (t : Tree) → sort_fits fits above i last s ≡ true → has_form s t ≡ true → Edges fits above i last t
    edges-tree above i last s (node k l fs) h e = (
      all-of (fits above i last) k (kinds_of s) (node_form s k l fs e).sort h,
      by-option (elements_of (child_entries k)) (fields_form k l (child_entries k) fs) (λ p. elements_form p.sort p.last fs) (EdgesIn fits k 0 fs) (node_form s k l fs e).children
          (λ d. edges-fields k 0 l (child_entries k) fs (table.entries k) d)
          (λ p o d. (let f = table.elements k p o in edges-elements k 0 p.sort p.last fs f.sort f.last d)),
    )

    edges-fields : (k : AstType) (i : ℕ) (l : Label) (es : List Entry) (fs : Fields) → entries_fit fits k i es ≡ true → fields_form k l es fs ≡ true → EdgesIn fits k i fs
    edges-fields k i l [] done h e = tt
    edges-fields k i l [] (f then fs) h e = absurd (cc e)
    edges-fields k i l (c ∷ es) done h e = absurd (cc e)
    edges-fields k i l (c ∷ es) (f then fs) h e =
        let own = and_parts (content_fits fits k i (no_more es) c.content) (entries_fit fits k (suc i) es) h in
        let both = and_parts (field_form k l c.content f) (fields_form k l es fs) e in
        (edges-field k i l (is_last fs) c.content f (subst (λ b. content_fits fits k i b c.content ≡ true) (same-end k l es fs both.1) own.0) both.0, edges-fields k (suc i) l es fs own.1 both.1)

    edges-field : (k : AstType) (i : ℕ) (l : Label) (last : Bool) (c : Content) (f : Field) → content_fits fits k i last c ≡ true → field_form k l c f ≡ true → EdgesBy fits k i last f
    edges-field k i l last (c-Child s Required) (one t) h e = edges-tree k i last (sort_at k l s) t (place-fits k i last l s h) e
    edges-field k i l last (c-Child s Optional) missing h e = tt
    edges-field k i l last (c-Child s Optional) (one t) h e = edges-tree k i last (sort_at k l s) t (place-fits k i last l s h) e
    edges-field k i l last (c-Child s a-List) (many ts) h e = edges-trees k i s s ts h h e
    edges-field k i l last (c-Child s NonEmptyList) (many (t before ts)) h e = edges-trees k i s s (t before ts) h h e
    edges-field k i l last (c-Child s ListWithRest) (many ts) h e =
        let both = and_parts (sort_fits fits k i false s) (sort_fits fits k i false (rest_sort s)) h in
        edges-trees k i s (rest_sort s) ts both.0 both.1 e
    edges-field k i l last (c-Child s Statements) (statements ts) h e = edges-trees k i s s ts h h e
    edges-field k i l last _ f h e = absurd (cc e)

    edges-trees : (k : AstType) (i : ℕ) (s last : Sort) (ts : Trees) → sort_fits fits k i false s ≡ true → sort_fits fits k i false last ≡ true → trees_form s last ts ≡ true → EdgesAll fits k i ts
    edges-trees k i s last empty h d e = tt
    edges-trees k i s last (t before ts) h d e =
        let both = and_parts (has_form (sort_before_trees s last ts) t) (trees_form s last ts) e in
        (edges-tree k i false (sort_before_trees s last ts) t (before-trees k i s last ts h d) both.0, edges-trees k i s last ts h d both.1)

    edges-elements : (k : AstType) (i : ℕ) (s last : Sort) (fs : Fields) → ((i : ℕ) (b : Bool) → sort_fits fits k i b s ≡ true) → ((i : ℕ) (b : Bool) → sort_fits fits k i b last ≡ true) → elements_form s last fs ≡ true → EdgesIn fits k i fs
    edges-elements k i s last done h d e = tt
    edges-elements k i s last (f then fs) h d e =
        let both = and_parts (element_form (sort_before_fields s last fs) f) (elements_form s last fs) e in
        (edges-element k i (is_last fs) (sort_before_fields s last fs) f (before-fields k i (is_last fs) s last fs (h i (is_last fs)) (d i (is_last fs))) both.0, edges-elements k (suc i) s last fs h d both.1)

    edges-element : (k : AstType) (i : ℕ) (last : Bool) (s : Sort) (f : Field) → sort_fits fits k i last s ≡ true → element_form s f ≡ true → EdgesBy fits k i last f
    edges-element k i last s missing h e = tt
    edges-element k i last s (one t) h e = edges-tree k i last s t h e
    edges-element k i last s (many ts) h e = absurd (cc e)
    edges-element k i last s (statements ts) h e = absurd (cc e)

  -- what stands in the fields of a node that has form
  pub edges-inside : (s : Sort) (k : AstType) (l : Label) (fs : Fields) → has_form s (node k l fs) ≡ true → EdgesIn fits k 0 fs
  edges-inside s k l fs e =
      by-option (elements_of (child_entries k)) (fields_form k l (child_entries k) fs) (λ p. elements_form p.sort p.last fs) (EdgesIn fits k 0 fs) (node_form s k l fs e).children
      (λ d. edges-fields k 0 l (child_entries k) fs (table.entries k) d)
      (λ p o d. (let f = table.elements k p o in edges-elements k 0 p.sort p.last fs f.sort f.last d))
