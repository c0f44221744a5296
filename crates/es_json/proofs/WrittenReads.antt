-- What is written of a tree with form is a form of that tree.
use Rattle.std.proofs.Common.{◌≡◌, ◌<◌, ◌^◌, ℕ, suc, List, [], ◌∷◌, map, Bool, true, false, not, ◌&&◌, ◌||◌, Option, Some, None, MatchOption, bytes_eq, refl, sym, ap, ◌∙◌, subst}
use Rattle.std.specs.List.{list_any, list_all}
use Rattle.serde_json.specs.Data.{Data, array, object, unsigned, number, string, Members, no_members, put}
use Rattle.serde_json.proofs.Views.{get_member-put_other}
use Rattle.es_tree.specs.Words.{Text}
use Rattle.es_tree.specs.Table.{entries, type_name, field_text, rest_sort}
use Rattle.es_tree.specs.Tree.{Tree, node, Label, Fields, done, ◌then◌, Field, missing, one, many, statements, Trees, empty, ◌before◌}
use Rattle.es_tree.specs.Attributes.{child_entries}
use Rattle.es_tree.specs.Agree.{fields_agree, quasis_fit, is_guarded, is_meta_pair, trees_count, is_missing}
use Rattle.es_tree.specs.HasForm.{ElementsPlace, elements_by, elements_of, is_of_sort, sort_before_trees, sort_before_fields, match_option, has_form, elements_form, element_form, fields_form, field_form, trees_form}
use Rattle.es_tree.proofs.NodeForm.{node_form}
use Rattle.es_tree.specs.declared.ast_type.AstType.{AstType}
use Rattle.es_tree.specs.declared.ast_type.AstType.TheVariants.{TemplateLiteral, TryStatement, MetaProperty}
use Rattle.es_tree.specs.declared.table.FieldName.{FieldName}
use Rattle.es_tree.specs.declared.table.FieldName.TheVariants.{«Type» as f-Type, Start as f-Start, End as f-End}
use Rattle.es_tree.specs.declared.table.Entry.{Entry}
use Rattle.es_tree.specs.declared.table.Sort.{Sort}
use Rattle.es_tree.specs.declared.table.Often.TheVariants.{Required, Optional, List as a-List, NonEmptyList, ListWithRest, Statements, Elements, ElementsWithRest}
use Rattle.es_tree.specs.declared.table.Content.{Content}
use Rattle.es_tree.specs.declared.table.Content.TheVariants.{Child as c-Child}
use Rattle.es_json.specs.Values.{field_of, kind_here, IsOffset, sort_in, list_of, sort_before, items_count, stands, value_agrees}
use Rattle.es_json.specs.Form.{IsForm, AreElements, IsElement, AreFields, IsChild, AreItems}
use Rattle.es_json.specs.Canonical.{canonical, values, field_value, tree_items, items, node_members, common_members}
use Rattle.std.proofs.lemmas.Bool.{and_parts, or_parts, not-true}
use Rattle.es_json.proofs.TableFacts.{entry_name, all_distinct, names-distinct, content_decides, decides, children-decide}
use Rattle.es_json.proofs.ReadsBack.{differ, HasEntries, written_value, children_left, AreUnwritten, has_entries, get_member-put_entries}
use Rattle.es_json.proofs.Attributes.{texts_are, flags_are, none_stands, HoldChildren, hold_children}
use Rattle.es_json.proofs.Sorts.{SortsAgree, sort_in-node}
use Rattle.es_json.proofs.Named.{kind_named-type_name}

-- ---- the node by itself

others : (n : Text) (ns : List Text) → all_distinct (n ∷ ns) ≡ true → list_any (bytes_eq n) ns ≡ false
others n ns h = not-true _ (and_parts (not (list_any (bytes_eq n) ns)) _ h).0

more_distinct : (n : Text) (ns : List Text) → all_distinct (n ∷ ns) ≡ true → all_distinct ns ≡ true
more_distinct n ns h = (and_parts (not (list_any (bytes_eq n) ns)) _ h).1

not_among : (q n : Text) (ns : List Text) → list_any (bytes_eq q) (n ∷ ns) ≡ false → list_any (bytes_eq q) ns ≡ false
not_among q n ns h = (or_parts (bytes_eq q n) _ h).1

apart : (q n : Text) (ns : List Text) → list_any (bytes_eq q) (n ∷ ns) ≡ false → n ≡ q → ⊥
apart q n ns h e = differ q n (or_parts (bytes_eq q n) _ h).0 (sym e)

abbrev n-type : Text
n-type = field_text f-Type

abbrev n-start : Text
n-start = field_text f-Start

abbrev n-end : Text
n-end = field_text f-End

abbrev with_type : AstType → Members
with_type k = put n-type (string (type_name k)) no_members

abbrev with_start : AstType → Label → Members
with_start k l = put n-start (number (unsigned l.start)) (with_type k)

unwritten_common : (k : AstType) (l : Label) (ns : List Text) → list_any (bytes_eq n-type) ns ≡ false → list_any (bytes_eq n-start) ns ≡ false
    → list_any (bytes_eq n-end) ns ≡ false → AreUnwritten ns (common_members k l)
unwritten_common k l [] kind start end = tt
unwritten_common k l (n ∷ ns) kind start end = (
  get_member-put_other n n-end (number (unsigned l.stop)) (with_start k l) (apart n-end n ns end)
      ∙ get_member-put_other n n-start (number (unsigned l.start)) (with_type k) (apart n-start n ns start)
      ∙ get_member-put_other n n-type (string (type_name k)) no_members (apart n-type n ns kind),
  unwritten_common k l ns (not_among n-type n ns kind) (not_among n-start n ns start) (not_among n-end n ns end),
)

has_written : (k : AstType) (l : Label) (ds : List Data) → HasEntries (object (node_members k l ds)) (entries k) l.texts l.flags ds
has_written k l ds =
    let all = names-distinct k in
    let own = map entry_name (entries k) in
    let from_start = more_distinct n-type (n-start ∷ n-end ∷ own) all in
    let from_end = more_distinct n-start (n-end ∷ own) from_start in
    let kind = not_among n-type n-end own (not_among n-type n-start (n-end ∷ own) (others n-type (n-start ∷ n-end ∷ own) all)) in
    let start = not_among n-start n-end own (others n-start (n-end ∷ own) from_start) in
    let end = others n-end own from_end in
    has_entries (entries k) l.texts l.flags ds (common_members k l) (more_distinct n-end own from_end) (unwritten_common k l own kind start end)

type_stands : (k : AstType) (l : Label) (ds : List Data) → field_of f-Type (object (node_members k l ds)) ≡ Some (string (type_name k))
type_stands k l ds =
    let own = map entry_name (entries k) in
    get_member-put_entries n-type (entries k) l.texts l.flags ds (common_members k l)
    (not_among n-type n-end own (not_among n-type n-start (n-end ∷ own) (others n-type (n-start ∷ n-end ∷ own) (names-distinct k))))

start_stands : (k : AstType) (l : Label) (ds : List Data) → field_of f-Start (object (node_members k l ds)) ≡ Some (number (unsigned l.start))
start_stands k l ds =
    let own = map entry_name (entries k) in
    get_member-put_entries n-start (entries k) l.texts l.flags ds (common_members k l)
    (not_among n-start n-end own (others n-start (n-end ∷ own) (more_distinct n-type (n-start ∷ n-end ∷ own) (names-distinct k))))

stop_stands : (k : AstType) (l : Label) (ds : List Data) → field_of f-End (object (node_members k l ds)) ≡ Some (number (unsigned l.stop))
stop_stands k l ds =
    let own = map entry_name (entries k) in
    get_member-put_entries n-end (entries k) l.texts l.flags ds (common_members k l)
    (others n-end own (more_distinct n-start (n-end ∷ own) (more_distinct n-type (n-start ∷ n-end ∷ own) (names-distinct k))))

kind_stands : (s : Sort) (k : AstType) (v : Data) → field_of f-Type v ≡ Some (string (type_name k)) → is_of_sort s k ≡ true → kind_here s v ≡ Some k
kind_stands s k v h is = rw h (kind_named-type_name s k is)

offset_stands : (o : Option Data) (n : ℕ) → o ≡ Some (number (unsigned n)) → n < 2 ^ 32 → IsOffset o n
offset_stands o n h below = subst (λ o. IsOffset o n) (sym h) (refl, below)

-- ---- what a node's fields are to each other

items_count-tree_items : (ts : Trees) → items_count (tree_items ts) ≡ trees_count ts
items_count-tree_items empty = refl
items_count-tree_items (t before ts) = ap suc (items_count-tree_items ts)

stands-field_value : (f : Field) → stands (Some (field_value f)) ≡ not (is_missing f)
stands-field_value missing = refl
stands-field_value (one (node k l fs)) = refl
stands-field_value (many ts) = refl
stands-field_value (statements ts) = refl

or_not : (a b : Bool) → (not a || not b) ≡ not (a && b)
or_not true b = refl
or_not false b = refl

quasis_agree : (v : Data) (ts : List (Option Text)) (bs : List Bool) (fs : Fields) → HasEntries v (entries TemplateLiteral) ts bs (values fs)
    → quasis_fit fs ≡ true → value_agrees TemplateLiteral v ≡ true
quasis_agree v ts bs (many qs then (many es then done)) h fit = rw (h.0, h.1.0, items_count-tree_items qs, items_count-tree_items es) fit
quasis_agree v ts bs _ h fit = absurd (cc fit)

guarded_agree : (v : Data) (ts : List (Option Text)) (bs : List Bool) (fs : Fields) → HasEntries v (entries TryStatement) ts bs (values fs)
    → is_guarded fs ≡ true → value_agrees TryStatement v ≡ true
guarded_agree v ts bs (b then (c then (f then done))) h fit =
    rw (h.1.0, h.1.1.0, stands-field_value c, stands-field_value f, or_not (is_missing c) (is_missing f)) fit
guarded_agree v ts bs _ h fit = absurd (cc fit)

meta_agrees : (v : Data) (ts : List (Option Text)) (bs : List Bool) (ds : List Data) → HasEntries v (entries MetaProperty) ts bs ds
    → is_meta_pair ts ≡ true → value_agrees MetaProperty v ≡ true
meta_agrees v (Some m ∷ (Some p ∷ [])) bs ds h fit = rw (h.0, h.1.0) fit
meta_agrees v _ bs ds h fit = absurd (cc fit)

agrees : (k : AstType) (v : Data) (ts : List (Option Text)) (bs : List Bool) (fs : Fields) → HasEntries v (entries k) ts bs (values fs)
    → fields_agree k ts fs ≡ true → value_agrees k v ≡ true
agrees TemplateLiteral v ts bs fs h fit = quasis_agree v ts bs fs h fit
agrees TryStatement v ts bs fs h fit = guarded_agree v ts bs fs h fit
agrees MetaProperty v ts bs fs h fit = meta_agrees v ts bs (values fs) h fit
agrees _ v ts bs fs h fit = refl

-- ---- the children

abbrev place : FieldName → Sort → Sort → ElementsPlace
place f s last = record { field = f; sort = s; last = last }

elements_by_stand : (f : FieldName) (c : Content) (p : ElementsPlace) (v : Data) (ds : List Data) → elements_by f c ≡ Some p
    → field_of f v ≡ written_value c [] [] ds → field_of p.field v ≡ Some (array (items ds))
elements_by_stand f (c-Child s Elements) p v ds e h =
    let is : place f s s ≡ p = cc in
    subst (λ (q : ElementsPlace). field_of q.field v ≡ Some (array (items ds))) is h
elements_by_stand f (c-Child s ElementsWithRest) p v ds e h =
    let is : place f s (rest_sort s) ≡ p = cc in
    subst (λ (q : ElementsPlace). field_of q.field v ≡ Some (array (items ds))) is h
elements_by_stand f _ p v ds e h = absurd (cc e)

elements_stand : (es : List Entry) (p : ElementsPlace) (v : Data) (ds : List Data) → elements_of es ≡ Some p → HoldChildren v es ds → field_of p.field v ≡ Some (array (items ds))
elements_stand (e ∷ []) p v ds is h = elements_by_stand e.field e.content p v ds is h.0
elements_stand _ p v ds is h = absurd (cc is)

children_read : (k : AstType) (l : Label) (v : Data) (es : List Entry) (fs : Fields) (o : Option ElementsPlace) → elements_of es ≡ o → HoldChildren v es (values fs)
    → (fields_form k l es fs ≡ true → AreFields v es fs)
    → ((p : ElementsPlace) → elements_form p.sort p.last fs ≡ true → AreElements p.sort p.last (Some (items (values fs))) fs)
    → match_option o (fields_form k l es fs) (λ p. elements_form p.sort p.last fs) ≡ true
    → MatchOption o (AreFields v es fs) (λ p. AreElements p.sort p.last (list_of (field_of p.field v)) fs)
children_read k l v es fs None is hold by_fields by_elements h = by_fields h
children_read k l v es fs (Some p) is hold by_fields by_elements h =
    subst (λ o. AreElements p.sort p.last (list_of o) fs) (sym (elements_stand es p v (values fs) is hold)) (by_elements p h)

left_after : (k : AstType) (l : Label) (c : Content) (f : Field) (ds : List Data) → field_form k l c f ≡ true → children_left c (field_value f ∷ ds) ≡ ds
left_after k l (c-Child s Required) f ds h = refl
left_after k l (c-Child s Optional) f ds h = refl
left_after k l (c-Child s a-List) f ds h = refl
left_after k l (c-Child s NonEmptyList) f ds h = refl
left_after k l (c-Child s ListWithRest) f ds h = refl
left_after k l (c-Child s Statements) f ds h = refl
left_after k l _ f ds h = absurd (cc h)

sort_before-trees : (s last : Sort) (ts : Trees) → sort_before s last (tree_items ts) ≡ sort_before_trees s last ts
sort_before-trees s last empty = refl
sort_before-trees s last (t before ts) = refl

sort_before-fields : (s last : Sort) (fs : Fields) → sort_before s last (items (values fs)) ≡ sort_before_fields s last fs
sort_before-fields s last done = refl
sort_before-fields s last (f then fs) = refl

mutual
  pub written_reads : (s : Sort) (t : Tree) → has_form s t ≡ true → IsForm s (canonical t) t
  written_reads s (node k l fs) h =
      let v = object (node_members k l (values fs)) in
      let form = node_form s k l fs h in
      let has = has_written k l (values fs) in
      let hold = hold_children v (entries k) l.texts l.flags (values fs) has in
      let texts = texts_are v (entries k) l.texts l.flags (values fs) has form.texts in
      let flags = flags_are v (entries k) l.texts l.flags (values fs) has form.flags in
      let sorts : SortsAgree k l v = sort_in-node k l v texts flags in (
        kind_stands s k v (type_stands k l (values fs)) form.sort,
        offset_stands (field_of f-Start v) l.start (start_stands k l (values fs)) form.start,
        offset_stands (field_of f-End v) l.stop (stop_stands k l (values fs)) form.stop,
        none_stands v (entries k) l.texts l.flags (values fs) has,
        texts,
        flags,
        children_read k l v (child_entries k) fs (elements_of (child_entries k)) refl hold
            (λ h. fields_read k l v sorts (child_entries k) fs (children-decide k) hold h) (λ p h. elements_read p.sort p.last fs h) form.children,
        agrees k v l.texts l.flags fs has form.agree,
      )

  fields_read : (k : AstType) (l : Label) (v : Data) → SortsAgree k l v → (es : List Entry) (fs : Fields) → list_all (decides k) es ≡ true
      → HoldChildren v es (values fs) → fields_form k l es fs ≡ true → AreFields v es fs
  fields_read k l v sorts [] done decide hold h = tt
  fields_read k l v sorts (e ∷ es) (f then fs) decide hold h =
      let form = and_parts (field_form k l e.content f) _ h in
      let decided = and_parts (decides k e) _ decide in
      let left = subst (HoldChildren v es) (left_after k l e.content f (values fs) form.0) hold.1 in
      (field_read k l v sorts e.content (field_of e.field v) f (values fs) decided.0 hold.0 form.0, fields_read k l v sorts es fs decided.1 left form.1)
  fields_read k l v sorts _ _ decide hold h = absurd (cc h)

  field_read : (k : AstType) (l : Label) (v : Data) → SortsAgree k l v → (c : Content) (o : Option Data) (f : Field) (ds : List Data) → content_decides k c ≡ true
      → o ≡ written_value c [] [] (field_value f ∷ ds) → field_form k l c f ≡ true → IsChild v c o f
  field_read k l v sorts (c-Child s Required) o (one t) ds decided is h =
      subst (λ o. IsChild v (c-Child s Required) o (one t)) (sym is) (written_reads (sort_in v s) t (subst (λ s. has_form s t ≡ true) (sym (sorts s decided)) h))
  field_read k l v sorts (c-Child s Optional) o missing ds decided is h = subst (λ o. IsChild v (c-Child s Optional) o missing) (sym is) refl
  field_read k l v sorts (c-Child s Optional) o (one t) ds decided is h =
      subst (λ o. IsChild v (c-Child s Optional) o (one t)) (sym is) (written_reads (sort_in v s) t (subst (λ s. has_form s t ≡ true) (sym (sorts s decided)) h))
  field_read k l v sorts (c-Child s a-List) o (many ts) ds decided is h = subst (λ o. AreItems s s (list_of o) ts) (sym is) (trees_read s s ts h)
  field_read k l v sorts (c-Child s NonEmptyList) o (many (t before ts)) ds decided is h =
      subst (λ o. AreItems s s (list_of o) (t before ts)) (sym is) (trees_read s s (t before ts) h)
  field_read k l v sorts (c-Child s ListWithRest) o (many ts) ds decided is h = subst (λ o. AreItems s (rest_sort s) (list_of o) ts) (sym is) (trees_read s (rest_sort s) ts h)
  field_read k l v sorts (c-Child s Statements) o (statements ts) ds decided is h = subst (λ o. AreItems s s (list_of o) ts) (sym is) (trees_read s s ts h)
  field_read k l v sorts _ o _ ds decided is h = absurd (cc h)

  trees_read : (s last : Sort) (ts : Trees) → trees_form s last ts ≡ true → AreItems s last (Some (tree_items ts)) ts
  trees_read s last empty h = tt
  trees_read s last (t before ts) h = (
    subst (λ s. IsForm s (canonical t) t) (sym (sort_before-trees s last ts)) (written_reads (sort_before_trees s last ts) t (and_parts (has_form (sort_before_trees s last ts) t) _ h).0),
    trees_read s last ts (and_parts (has_form (sort_before_trees s last ts) t) _ h).1,
  )

  elements_read : (s last : Sort) (fs : Fields) → elements_form s last fs ≡ true → AreElements s last (Some (items (values fs))) fs
  elements_read s last done h = tt
  elements_read s last (f then fs) h = (
    subst (λ s. IsElement s (field_value f) f) (sym (sort_before-fields s last fs)) (element_read (sort_before_fields s last fs) f (and_parts (element_form (sort_before_fields s last fs) f) _ h).0),
    elements_read s last fs (and_parts (element_form (sort_before_fields s last fs) f) _ h).1,
  )

  element_read : (s : Sort) (f : Field) → element_form s f ≡ true → IsElement s (field_value f) f
  element_read s missing h = refl
  element_read s (one t) h = written_reads s t h
  element_read s (many ts) h = absurd (cc h)
  element_read s (statements ts) h = absurd (cc h)
