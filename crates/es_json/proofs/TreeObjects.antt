-- Each node of a tree has an object of its own in a value that is a form of the tree.
use Rattle.std.proofs.Common.{◌≡◌, ℕ, ◌+◌, ◌≤◌, List, [], ◌∷◌, map, Bool, true, false, not, Option, Some, None, MatchOption, Ordering, Less, Equal, Greater, nat_cmp, is_eq, bytes_eq, if◌then◌else◌, refl, sym, ap, ◌∙◌, subst, arith}
use Rattle.std.proofs.lemmas.Bool.{and_parts, or_parts, not-true}
use Rattle.std.proofs.lemmas.Map.Text.{is_eq-slice_cmp}
use Rattle.std.proofs.lemmas.Slice.Eq.{bytes_eq-Decides}
use Rattle.std.specs.Cmp.Lexicographic.{slice_cmp}
use Rattle.std.specs.List.{list_any}
use Rattle.std.specs.Ordering.{match_ordering}
use Rattle.serde_json.specs.Data.{Data, null, boolean, number, string, array, object, Items, no_items, item, Members, no_members, member}
use Rattle.serde_json.specs.Find.{get_member}
use Rattle.es_tree.specs.Words.{Text}
use Rattle.es_tree.specs.Tree.{Tree, node, Fields, done, ◌then◌, Field, missing, one, many, statements, Trees, empty, ◌before◌, tree_size, fields_size, field_size, trees_size}
use Rattle.es_tree.specs.Table.{rest_sort}
use Rattle.es_tree.specs.Attributes.{child_entries}
use Rattle.es_tree.specs.declared.table.FieldName.{FieldName}
use Rattle.es_tree.specs.declared.table.Entry.{Entry}
use Rattle.es_tree.specs.declared.table.Sort.{Sort}
use Rattle.es_tree.specs.declared.table.Often.TheVariants.{Required, Optional, List as a-List, NonEmptyList, ListWithRest, Statements, Elements, ElementsWithRest}
use Rattle.es_tree.specs.declared.table.Content.{Content}
use Rattle.es_tree.specs.declared.table.Content.TheVariants.{
  Text as c-Text,
  OptionalText as c-OptionalText,
  Flag as c-Flag,
  RequiredFlag as c-RequiredFlag,
  Refused as c-Refused,
  Child as c-Child,
}
use Rattle.es_json.specs.Values.{field_of, sort_in, list_of, sort_before}
use Rattle.es_json.specs.Form.{ElementsPlace, elements_by, elements_of, IsForm, AreElements, IsElement, AreFields, IsChild, AreItems}
use Rattle.es_json.specs.Limits.{objects, items_objects, members_objects}
use Rattle.es_json.proofs.ReadsBack.{differ}
use Rattle.es_json.proofs.TableFacts.{entry_name, all_distinct, children-distinct}

-- ---- the objects under some names

abbrev found : Option Data → ℕ
found None = 0
found (Some d) = objects d

abbrev under : List Text → Members → ℕ
under [] ms = 0
under (k ∷ ks) ms = found (get_member k ms) + under ks ms

picked : (o : Ordering) (r : Option Data) (e : Data) → found (match_ordering o r (Some e) r) ≡ (if is_eq o then objects e else found r)
picked Less r e = refl
picked Equal r e = refl
picked Greater r e = refl

found_under : (k l : Text) (e : Data) (ms : Members) (b : Bool) → bytes_eq k l ≡ b → found (get_member k (member l e ms)) ≡ (if b then objects e else found (get_member k ms))
found_under k l e ms b is =
    picked (slice_cmp nat_cmp k l) (get_member k ms) e ∙ ap (λ x. if x then objects e else found (get_member k ms)) (is_eq-slice_cmp k l ∙ is)

turned : (k l : Text) → bytes_eq l k ≡ false → (b : Bool) → bytes_eq k l ≡ b → bytes_eq k l ≡ false
turned k l h false is = is
turned k l h true is = absurd (differ l k h (sym ((bytes_eq-Decides k l).0 is)))

-- a member of another name changes nothing
under_others : (l : Text) (e : Data) (ms : Members) (ks : List Text) → list_any (bytes_eq l) ks ≡ false → under ks (member l e ms) ≡ under ks ms
under_others l e ms [] h = refl
under_others l e ms (k ∷ ks) h =
    let two = or_parts (bytes_eq l k) (list_any (bytes_eq l) ks) h in
    let here = found_under k l e ms false (turned k l two.0 (bytes_eq k l) refl) in
    let rest = under_others l e ms ks two.1 in
    λ i. here i + rest i

under_more : (l : Text) (e : Data) (ms : Members) (ks : List Text) → all_distinct ks ≡ true → under ks (member l e ms) ≤ objects e + under ks ms
under_more l e ms [] h = omega arith
under_more l e ms (k ∷ ks) h = by_test (bytes_eq k l) refl (under_more l e ms ks parts.1) where
  parts : (not (list_any (bytes_eq k) ks) ≡ true) × (all_distinct ks ≡ true)
  parts = and_parts (not (list_any (bytes_eq k) ks)) (all_distinct ks) h

  by_test : (b : Bool) → bytes_eq k l ≡ b → under ks (member l e ms) ≤ objects e + under ks ms → under (k ∷ ks) (member l e ms) ≤ objects e + under (k ∷ ks) ms
  by_test true is more =
      let P : Text → Type 0 = λ x. list_any (bytes_eq x) ks ≡ false in
      let same = under_others l e ms ks (subst P ((bytes_eq-Decides k l).0 is) (not-true _ parts.0)) in
      omega (arith, found_under k l e ms true is, same)
  by_test false is more = omega (arith, found_under k l e ms false is, more)

under_none : (ks : List Text) → under ks no_members ≤ 0
under_none [] = omega arith
under_none (k ∷ ks) = omega (arith, under_none ks)

under_within : (ks : List Text) (ms : Members) → all_distinct ks ≡ true → under ks ms ≤ members_objects ms
under_within ks no_members h = under_none ks
under_within ks (member l e ms) h = omega (arith, under_more l e ms ks h, under_within ks ms h)

-- ---- trees

abbrev listed : Option Items → ℕ
listed None = 0
listed (Some ds) = items_objects ds

listed_within : (o : Option Data) → listed (list_of o) ≤ found o
listed_within None = omega arith
listed_within (Some null) = omega arith
listed_within (Some (boolean b)) = omega arith
listed_within (Some (number n)) = omega arith
listed_within (Some (string s)) = omega arith
listed_within (Some (array ds)) = omega arith
listed_within (Some (object ms)) = omega arith

abbrev Elements_in : Data → Fields → ElementsPlace → Type 0
Elements_in v fs p = AreElements p.sort p.last (list_of (field_of p.field v)) fs

one_place : (f : FieldName) (c : Content) (v : Data) (fs : Fields) (n : ℕ) (A : Type 0) → (A → fields_size fs ≤ n)
    → ((s last : Sort) → AreElements s last (list_of (field_of f v)) fs → fields_size fs ≤ n)
    → MatchOption (elements_by f c) A (Elements_in v fs) → fields_size fs ≤ n
one_place f (c-Child s Elements) v fs n A by_fields by_elements h = by_elements s s h
one_place f (c-Child s ElementsWithRest) v fs n A by_fields by_elements h = by_elements s (rest_sort s) h
one_place f (c-Child s Required) v fs n A by_fields by_elements h = by_fields h
one_place f (c-Child s Optional) v fs n A by_fields by_elements h = by_fields h
one_place f (c-Child s a-List) v fs n A by_fields by_elements h = by_fields h
one_place f (c-Child s NonEmptyList) v fs n A by_fields by_elements h = by_fields h
one_place f (c-Child s ListWithRest) v fs n A by_fields by_elements h = by_fields h
one_place f (c-Child s Statements) v fs n A by_fields by_elements h = by_fields h
one_place f (c-Text r) v fs n A by_fields by_elements h = by_fields h
one_place f c-OptionalText v fs n A by_fields by_elements h = by_fields h
one_place f c-Flag v fs n A by_fields by_elements h = by_fields h
one_place f c-RequiredFlag v fs n A by_fields by_elements h = by_fields h
one_place f c-Refused v fs n A by_fields by_elements h = by_fields h

places : (es : List Entry) (ms : Members) (fs : Fields)
    → (AreFields (object ms) es fs → fields_size fs ≤ under (map entry_name es) ms)
    → ((s last : Sort) (o : Option Items) → AreElements s last o fs → fields_size fs ≤ listed o)
    → MatchOption (elements_of es) (AreFields (object ms) es fs) (Elements_in (object ms) fs) → fields_size fs ≤ under (map entry_name es) ms
places [] ms fs by_fields by_elements h = by_fields h
places (e ∷ []) ms fs by_fields by_elements h =
    one_place e.field e.content (object ms) fs (under (entry_name e ∷ []) ms) (AreFields (object ms) (e ∷ []) fs) by_fields (λ s last a. omega (arith, by_elements s last (list_of (field_of e.field (object ms))) a, listed_within (field_of e.field (object ms)))) h
places (e ∷ d ∷ es) ms fs by_fields by_elements h = by_fields h

mutual
  -- A tree has at most as many nodes as a value that is a form of it has objects.
  pub size_within : (s : Sort) (v : Data) (t : Tree) → IsForm s v t → tree_size t ≤ objects v
  size_within s null (node k l fs) h = absurd (cc h.0)
  size_within s (boolean b) (node k l fs) h = absurd (cc h.0)
  size_within s (number n) (node k l fs) h = absurd (cc h.0)
  size_within s (string t) (node k l fs) h = absurd (cc h.0)
  size_within s (array ds) (node k l fs) h = absurd (cc h.0)
  size_within s (object ms) (node k l fs) h =
      let es = child_entries k in
      let children = places es ms fs (λ a. fields_within ms es fs a) (λ r last o a. elements_within r last o fs a) h.6 in
      omega (arith, children, under_within (map entry_name es) ms (children-distinct k))

  fields_within : (ms : Members) (es : List Entry) (fs : Fields) → AreFields (object ms) es fs → fields_size fs ≤ under (map entry_name es) ms
  fields_within ms [] done h = omega arith
  fields_within ms [] (f then fs) h = absurd h
  fields_within ms (e ∷ es) done h = absurd h
  fields_within ms (e ∷ es) (f then fs) h = omega (arith, child_within (object ms) e.content (field_of e.field (object ms)) f h.0, fields_within ms es fs h.1)

  child_within : (v : Data) (c : Content) (o : Option Data) (f : Field) → IsChild v c o f → field_size f ≤ found o
  child_within v c o missing h = omega arith
  child_within v (c-Child s Required) (Some d) (one t) h = size_within (sort_in v s) d t h
  child_within v (c-Child s Optional) (Some d) (one t) h = size_within (sort_in v s) d t h
  child_within v (c-Child s a-List) o (many ts) h = omega (arith, items_within s s (list_of o) ts h, listed_within o)
  child_within v (c-Child s NonEmptyList) o (many (t before ts)) h = omega (arith, items_within s s (list_of o) (t before ts) h, listed_within o)
  child_within v (c-Child s ListWithRest) o (many ts) h = omega (arith, items_within s (rest_sort s) (list_of o) ts h, listed_within o)
  child_within v (c-Child s Statements) o (statements ts) h = omega (arith, items_within s s (list_of o) ts h, listed_within o)
  child_within v (c-Child s NonEmptyList) o (many empty) h = absurd h
  child_within v (c-Child s Required) None (one t) h = absurd h
  child_within v (c-Child s Required) None (many ts) h = absurd h
  child_within v (c-Child s Required) (Some d) (many ts) h = absurd h
  child_within v (c-Child s Required) None (statements ts) h = absurd h
  child_within v (c-Child s Required) (Some d) (statements ts) h = absurd h
  child_within v (c-Child s Optional) None (one t) h = absurd h
  child_within v (c-Child s Optional) None (many ts) h = absurd h
  child_within v (c-Child s Optional) (Some d) (many ts) h = absurd h
  child_within v (c-Child s Optional) None (statements ts) h = absurd h
  child_within v (c-Child s Optional) (Some d) (statements ts) h = absurd h
  child_within v (c-Child s a-List) o (one t) h = absurd h
  child_within v (c-Child s a-List) o (statements ts) h = absurd h
  child_within v (c-Child s NonEmptyList) o (one t) h = absurd h
  child_within v (c-Child s NonEmptyList) o (statements ts) h = absurd h
  child_within v (c-Child s ListWithRest) o (one t) h = absurd h
  child_within v (c-Child s ListWithRest) o (statements ts) h = absurd h
  child_within v (c-Child s Statements) o (one t) h = absurd h
  child_within v (c-Child s Statements) o (many ts) h = absurd h
  child_within v (c-Child s Elements) o f h = absurd h
  child_within v (c-Child s ElementsWithRest) o f h = absurd h
  child_within v (c-Text r) o f h = absurd h
  child_within v c-OptionalText o f h = absurd h
  child_within v c-Flag o f h = absurd h
  child_within v c-RequiredFlag o f h = absurd h
  child_within v c-Refused o f h = absurd h

  elements_within : (s last : Sort) (o : Option Items) (fs : Fields) → AreElements s last o fs → fields_size fs ≤ listed o
  elements_within s last None fs h = absurd h
  elements_within s last (Some no_items) done h = omega arith
  elements_within s last (Some no_items) (f then fs) h = absurd h
  elements_within s last (Some (item d ds)) done h = absurd h
  elements_within s last (Some (item d ds)) (f then fs) h = omega (arith, element_within (sort_before s last ds) d f h.0, elements_within s last (Some ds) fs h.1)

  element_within : (s : Sort) (d : Data) (f : Field) → IsElement s d f → field_size f ≤ objects d
  element_within s d missing h = omega arith
  element_within s d (one t) h = size_within s d t h
  element_within s d (many ts) h = absurd h
  element_within s d (statements ts) h = absurd h

  items_within : (s last : Sort) (o : Option Items) (ts : Trees) → AreItems s last o ts → trees_size ts ≤ listed o
  items_within s last None ts h = absurd h
  items_within s last (Some no_items) empty h = omega arith
  items_within s last (Some no_items) (t before ts) h = absurd h
  items_within s last (Some (item d ds)) empty h = absurd h
  items_within s last (Some (item d ds)) (t before ts) h = omega (arith, size_within (sort_before s last ds) d t h.0, items_within s last (Some ds) ts h.1)
