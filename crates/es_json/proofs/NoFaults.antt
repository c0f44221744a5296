-- A value that is the form of a tree has no fault.
use Rattle.std.proofs.Common.{◌≡◌, ℕ, zero, suc, ◌<◌, ◌^◌, ◌&&◌, List, [], ◌∷◌, ◌++◌, filter, Bool, true, false, Option, Some, None, is_some, nat_lt, refl, sym, ap, subst, ◌∙◌, arith}
use Rattle.serde_json.specs.Data.{Data, null, boolean, number, string, array, object, Items, no_items, item, depth}
use Rattle.es_tree.specs.Words.{Text}
use Rattle.es_tree.specs.Table.{entries, rest_sort}
use Rattle.es_tree.specs.Tree.{Tree, node, Fields, done, ◌then◌, Field, missing, one, many, statements, Trees, empty, ◌before◌}
use Rattle.es_tree.specs.Attributes.{is_text, is_flag, is_refused, is_child, refused_entries, text_entries, flag_entries}
use Rattle.es_tree.specs.declared.ast_type.AstType.{AstType}
use Rattle.es_tree.specs.declared.ast_type.AstType.TheVariants.{TemplateLiteral, TryStatement, MetaProperty}
use Rattle.es_tree.specs.declared.table.FieldName.{FieldName}
use Rattle.es_tree.specs.declared.table.FieldName.TheVariants.{Start as f-Start, End as f-End, Quasis as f-Quasis, Handler as f-Handler, Property as f-Property}
use Rattle.es_tree.specs.declared.table.Entry.{Entry}
use Rattle.es_tree.specs.declared.table.Sort.{Sort}
use Rattle.es_tree.specs.declared.table.Often.{Often}
use Rattle.es_tree.specs.declared.table.Often.TheVariants.{Required, Optional, List as a-List, NonEmptyList, ListWithRest, Statements, Elements, ElementsWithRest}
use Rattle.es_tree.specs.declared.table.Content.{Content}
use Rattle.es_tree.specs.declared.table.Content.TheVariants.{
  Text as c-Text,
  OptionalText as c-OptionalText,
  Flag as c-Flag,
  RequiredFlag as c-RequiredFlag,
  Refused as c-Refused,
  Child as c-Child,
}
use Rattle.es_json.specs.declared.error.Step.TheVariants.{Field as s-Field}
use Rattle.es_json.specs.Values.{field_of, IsOffset, IsAbsent, TextIs, FlagIs, NoneStands, TextsAre, FlagsAre, sort_in, list_of, sort_before, value_agrees}
use Rattle.es_json.specs.Form.{ElementsPlace, elements_by, elements_of, IsForm, IsElement, IsChild, AreItems, AreElements, AreFields}
use Rattle.es_json.specs.Faults.{Inside, under, here, offset_holds, list_holds, content_holds, agrees_at, unless_null, items_faults, list_faults, whole_list_faults, content_faults, field_faults, fields_faults, kind_faults, node_faults, faults_within, faults}
use Rattle.std.proofs.lemmas.List.{append-nil}
use Rattle.es_json.specs.Parts.{AreChildren}
use Rattle.es_json.proofs.Entries.{entry}
use Rattle.es_json.proofs.Parts.{array_agrees, children_are_fields, children_are_elements}

-- ---- what a field says by itself

pub offset_none : (o : Option Data) (n : ℕ) → IsOffset o n → offset_holds o ≡ true
offset_none None n h = refl
offset_none (Some v) n h = rw h.0 (nat_lt_true n h.1)
  where
    nat_lt_true : (x : ℕ) → x < 2 ^ 32 → nat_lt x 4294967296 ≡ true
    nat_lt_true x l = grind arith

and_true : (a b : Bool) → b ≡ true → (a && b) ≡ a
and_true true b h = h
and_true false b h = refl

-- a place that holds, and nothing inside it
abbrev pub IsSound : Inside → Data → Content → Option Data → Type 0
IsSound inside v c o = (content_holds c o ≡ true) × (content_faults inside v c o ≡ [])

pub text_sound : (inside : Inside) (v : Data) (c : Content) (o : Option Data) (t : Option Text) → TextIs c o t → IsSound inside v c o
text_sound inside v (c-Text r) None t h = absurd h
text_sound inside v (c-Text r) (Some null) t h = absurd h
text_sound inside v (c-Text r) (Some (boolean b)) t h = absurd h
text_sound inside v (c-Text r) (Some (number n)) t h = absurd h
text_sound inside v (c-Text r) (Some (string s)) None h = absurd h
text_sound inside v (c-Text r) (Some (string s)) (Some t) h = (rw (← h.0) h.1, refl)
text_sound inside v (c-Text r) (Some (array ds)) t h = absurd h
text_sound inside v (c-Text r) (Some (object ms)) t h = absurd h
text_sound inside v c-OptionalText None t h = (refl, refl)
text_sound inside v c-OptionalText (Some null) t h = (refl, refl)
text_sound inside v c-OptionalText (Some (boolean b)) t h = absurd h
text_sound inside v c-OptionalText (Some (number n)) t h = absurd h
text_sound inside v c-OptionalText (Some (string s)) t h = (refl, refl)
text_sound inside v c-OptionalText (Some (array ds)) t h = absurd h
text_sound inside v c-OptionalText (Some (object ms)) t h = absurd h
text_sound inside v c-Flag o t h = absurd h
text_sound inside v c-RequiredFlag o t h = absurd h
text_sound inside v c-Refused o t h = absurd h
text_sound inside v (c-Child s often) o t h = absurd h

pub flag_sound : (inside : Inside) (v : Data) (c : Content) (o : Option Data) (b : Bool) → FlagIs c o b → IsSound inside v c o
flag_sound inside v c-Flag None b h = (refl, refl)
flag_sound inside v c-Flag (Some null) b h = absurd h
flag_sound inside v c-Flag (Some (boolean x)) b h = (refl, refl)
flag_sound inside v c-Flag (Some (number n)) b h = absurd h
flag_sound inside v c-Flag (Some (string s)) b h = absurd h
flag_sound inside v c-Flag (Some (array ds)) b h = absurd h
flag_sound inside v c-Flag (Some (object ms)) b h = absurd h
flag_sound inside v c-RequiredFlag None b h = absurd h
flag_sound inside v c-RequiredFlag (Some null) b h = absurd h
flag_sound inside v c-RequiredFlag (Some (boolean x)) b h = (refl, refl)
flag_sound inside v c-RequiredFlag (Some (number n)) b h = absurd h
flag_sound inside v c-RequiredFlag (Some (string s)) b h = absurd h
flag_sound inside v c-RequiredFlag (Some (array ds)) b h = absurd h
flag_sound inside v c-RequiredFlag (Some (object ms)) b h = absurd h
flag_sound inside v (c-Text r) o b h = absurd h
flag_sound inside v c-OptionalText o b h = absurd h
flag_sound inside v c-Refused o b h = absurd h
flag_sound inside v (c-Child s often) o b h = absurd h

absent_holds : (o : Option Data) → IsAbsent o → content_holds c-Refused o ≡ true
absent_holds None h = refl
absent_holds (Some null) h = refl
absent_holds (Some (boolean true)) h = absurd (cc h)
absent_holds (Some (boolean false)) h = refl
absent_holds (Some (number n)) h = absurd h
absent_holds (Some (string s)) h = absurd h
absent_holds (Some (array ds)) h = absurd h
absent_holds (Some (object ms)) h = absurd h

pub holds_absent : (o : Option Data) → content_holds c-Refused o ≡ true → IsAbsent o
holds_absent None h = tt
holds_absent (Some null) h = tt
holds_absent (Some (boolean true)) h = absurd (cc h)
holds_absent (Some (boolean false)) h = refl
holds_absent (Some (number n)) h = absurd (cc h)
holds_absent (Some (string s)) h = absurd (cc h)
holds_absent (Some (array ds)) h = absurd (cc h)
holds_absent (Some (object ms)) h = absurd (cc h)

pub field_none : (inside : Inside) (k : AstType) (v : Data) (e : Entry) → IsSound inside v e.content (field_of e.field v) → agrees_at k e.field v ≡ true → field_faults inside k v e ≡ []
field_none inside k v e sound agrees = rw (sound.0, sound.1, agrees) refl

-- what is asked at every field is asked at one
pub agrees_everywhere : (k : AstType) (v : Data) → value_agrees k v ≡ true → (f : FieldName) → agrees_at k f v ≡ true
agrees_everywhere TemplateLiteral v h f-Quasis = h
agrees_everywhere TemplateLiteral v h _ = refl
agrees_everywhere TryStatement v h f-Handler = h
agrees_everywhere TryStatement v h _ = refl
agrees_everywhere MetaProperty v h f-Property = h
agrees_everywhere MetaProperty v h _ = refl
agrees_everywhere _ v h f = refl

-- ---- nodes

module _ (inside : Inside) (none : (s : Sort) (d : Data) (t : Tree) → IsForm s d t → inside s d ≡ []) where
  pub element_none : (s : Sort) (d : Data) (f : Field) → IsElement s d f → unless_null inside s d ≡ []
  element_none s null f h = refl
  element_none s d missing h = subst (λ e. unless_null inside s e ≡ []) (sym h) refl
  element_none s (boolean x) (one t) h = none s (boolean x) t h
  element_none s (number n) (one t) h = none s (number n) t h
  element_none s (string x) (one t) h = none s (string x) t h
  element_none s (array ds) (one t) h = none s (array ds) t h
  element_none s (object ms) (one t) h = none s (object ms) t h
  element_none s d (many ts) h = absurd h
  element_none s d (statements ts) h = absurd h

  items_none : (s last : Sort) (i : ℕ) (ds : Items) (ts : Trees) → AreItems s last (Some ds) ts → items_faults inside s last i ds ≡ []
  items_none s last i no_items ts h = refl
  items_none s last i (item d ds) empty h = absurd h
  items_none s last i (item d ds) (t before ts) h = rw (none (sort_before s last ds) d t h.0, items_none s last (suc i) ds ts h.1) refl

  elements_none : (s last : Sort) (i : ℕ) (ds : Items) (fs : Fields) → AreElements s last (Some ds) fs → items_faults (unless_null inside) s last i ds ≡ []
  elements_none s last i no_items fs h = refl
  elements_none s last i (item d ds) done h = absurd h
  elements_none s last i (item d ds) (f then fs) h = rw (element_none (sort_before s last ds) d f h.0, elements_none s last (suc i) ds fs h.1) refl

  pub array_none : (s last : Sort) (o : Option Items) (fs : Fields) → AreElements s last o fs → whole_list_faults (unless_null inside) s last o ≡ []
  array_none s last None fs h = absurd h
  array_none s last (Some ds) fs h = elements_none s last 0 ds fs h

  non_empty_sound : (s : Sort) (o : Option Items) (t : Tree) (ts : Trees) → AreItems s s o (t before ts) → (list_holds NonEmptyList o ≡ true) × (list_faults inside s s o ≡ [])
  non_empty_sound s None t ts h = absurd h
  non_empty_sound s (Some no_items) t ts h = absurd h
  non_empty_sound s (Some (item d ds)) t ts h = (refl, items_none s s 0 (item d ds) (t before ts) h)

  list_sound : (s last : Sort) (o : Option Items) (ts : Trees) → AreItems s last o ts → (is_some o ≡ true) × (list_faults inside s last o ≡ [])
  list_sound s last None ts h = absurd h
  list_sound s last (Some ds) ts h = (refl, items_none s last 0 ds ts h)

  pub child_sound : (v : Data) (s : Sort) (often : Often) (o : Option Data) (f : Field) → IsChild v (c-Child s often) o f → IsSound inside v (c-Child s often) o
  child_sound v s Required None f h = absurd h
  child_sound v s Required (Some d) missing h = absurd h
  child_sound v s Required (Some d) (one t) h = (refl, none (sort_in v s) d t h)
  child_sound v s Required (Some d) (many ts) h = absurd h
  child_sound v s Required (Some d) (statements ts) h = absurd h
  child_sound v s Optional None f h = (refl, refl)
  child_sound v s Optional (Some d) missing h = (refl, element_none (sort_in v s) d missing h)
  child_sound v s Optional (Some d) (one t) h = (refl, element_none (sort_in v s) d (one t) h)
  child_sound v s Optional (Some d) (many ts) h = absurd h
  child_sound v s Optional (Some d) (statements ts) h = absurd h
  child_sound v s a-List o missing h = absurd h
  child_sound v s a-List o (one t) h = absurd h
  child_sound v s a-List o (many ts) h = list_sound s s (list_of o) ts h
  child_sound v s a-List o (statements ts) h = absurd h
  child_sound v s NonEmptyList o missing h = absurd h
  child_sound v s NonEmptyList o (one t) h = absurd h
  child_sound v s NonEmptyList o (many empty) h = absurd h
  child_sound v s NonEmptyList o (many (t before ts)) h = non_empty_sound s (list_of o) t ts h
  child_sound v s NonEmptyList o (statements ts) h = absurd h
  child_sound v s ListWithRest o missing h = absurd h
  child_sound v s ListWithRest o (one t) h = absurd h
  child_sound v s ListWithRest o (many ts) h = list_sound s (rest_sort s) (list_of o) ts h
  child_sound v s ListWithRest o (statements ts) h = absurd h
  child_sound v s Statements o missing h = absurd h
  child_sound v s Statements o (one t) h = absurd h
  child_sound v s Statements o (many ts) h = absurd h
  child_sound v s Statements o (statements ts) h = list_sound s s (list_of o) ts h
  child_sound v s Elements o f h = absurd h
  child_sound v s ElementsWithRest o f h = absurd h

-- ---- all fields of a kind

module _ (inside : Inside) (k : AstType) (v : Data) where
  -- the elements of an array are all its fields
  place_faults : (f : FieldName) (c : Content) (p : ElementsPlace) → elements_by f c ≡ Some p → agrees_at k f v ≡ true
      → fields_faults inside k v (entry f c ∷ []) ≡ under (s-Field p.field) (whole_list_faults (unless_null inside) p.sort p.last (list_of (field_of p.field v)))
  place_faults f (c-Text r) p is h = absurd (cc is)
  place_faults f c-OptionalText p is h = absurd (cc is)
  place_faults f c-Flag p is h = absurd (cc is)
  place_faults f c-RequiredFlag p is h = absurd (cc is)
  place_faults f c-Refused p is h = absurd (cc is)
  place_faults f (c-Child s Required) p is h = absurd (cc is)
  place_faults f (c-Child s Optional) p is h = absurd (cc is)
  place_faults f (c-Child s a-List) p is h = absurd (cc is)
  place_faults f (c-Child s NonEmptyList) p is h = absurd (cc is)
  place_faults f (c-Child s ListWithRest) p is h = absurd (cc is)
  place_faults f (c-Child s Statements) p is h = absurd (cc is)
  place_faults f (c-Child s Elements) p is h =
      let same : record { field = f; sort = s; last = s } ≡ p = cc is in
      subst (λ (q : ElementsPlace). fields_faults inside k v (entry f (c-Child s Elements) ∷ []) ≡ under (s-Field q.field) (whole_list_faults (unless_null inside) q.sort q.last (list_of (field_of q.field v)))) same
      (append-nil _ ∙ ap (λ b. under (s-Field f) (here b ++ list_faults (unless_null inside) s s (list_of (field_of f v)))) (and_true _ _ h))
  place_faults f (c-Child s ElementsWithRest) p is h =
      let same : record { field = f; sort = s; last = rest_sort s } ≡ p = cc is in
      subst (λ (q : ElementsPlace). fields_faults inside k v (entry f (c-Child s ElementsWithRest) ∷ []) ≡ under (s-Field q.field) (whole_list_faults (unless_null inside) q.sort q.last (list_of (field_of q.field v)))) same
      (append-nil _ ∙ ap (λ b. under (s-Field f) (here b ++ list_faults (unless_null inside) s (rest_sort s) (list_of (field_of f v)))) (and_true _ _ h))

  elements_faults : (es : List Entry) (p : ElementsPlace) → elements_of es ≡ Some p → ((f : FieldName) → agrees_at k f v ≡ true)
      → fields_faults inside k v es ≡ under (s-Field p.field) (whole_list_faults (unless_null inside) p.sort p.last (list_of (field_of p.field v)))
  elements_faults [] p is h = absurd (cc is)
  elements_faults (e ∷ []) p is h = place_faults e.field e.content p is (h e.field)
  elements_faults (e ∷ (f ∷ es)) p is h = absurd (cc is)

  pub array_faults : (p : ElementsPlace) → elements_of (entries k) ≡ Some p
      → fields_faults inside k v (entries k) ≡ under (s-Field p.field) (whole_list_faults (unless_null inside) p.sort p.last (list_of (field_of p.field v)))
  array_faults p is = elements_faults (entries k) p is (agrees_everywhere k v (array_agrees k v p is))

module _ (inside : Inside) (none : (s : Sort) (d : Data) (t : Tree) → IsForm s d t → inside s d ≡ []) (k : AstType) (v : Data) (agrees : (f : FieldName) → agrees_at k f v ≡ true) where
  one_none : (f : FieldName) (c : Content) (es : List Entry) (ts : List (Option Text)) (bs : List Bool) (fs : Fields)
      → ((us : List (Option Text)) (cs : List Bool) (gs : Fields) → NoneStands (filter is_refused es) v → TextsAre (filter is_text es) v us → FlagsAre (filter is_flag es) v cs → AreFields v (filter is_child es) gs → fields_faults inside k v es ≡ [])
      → NoneStands (filter is_refused (entry f c ∷ es)) v → TextsAre (filter is_text (entry f c ∷ es)) v ts → FlagsAre (filter is_flag (entry f c ∷ es)) v bs → AreFields v (filter is_child (entry f c ∷ es)) fs
      → fields_faults inside k v (entry f c ∷ es) ≡ []
  one_none f (c-Text r) es [] bs fs later n t b a = absurd t
  one_none f (c-Text r) es (x ∷ ts) bs fs later n t b a = rw (field_none inside k v (entry f (c-Text r)) (text_sound inside v (c-Text r) (field_of f v) x t.0) (agrees f)) (later ts bs fs n t.1 b a)
  one_none f c-OptionalText es [] bs fs later n t b a = absurd t
  one_none f c-OptionalText es (x ∷ ts) bs fs later n t b a = rw (field_none inside k v (entry f c-OptionalText) (text_sound inside v c-OptionalText (field_of f v) x t.0) (agrees f)) (later ts bs fs n t.1 b a)
  one_none f c-Flag es ts [] fs later n t b a = absurd b
  one_none f c-Flag es ts (x ∷ bs) fs later n t b a = rw (field_none inside k v (entry f c-Flag) (flag_sound inside v c-Flag (field_of f v) x b.0) (agrees f)) (later ts bs fs n t b.1 a)
  one_none f c-RequiredFlag es ts [] fs later n t b a = absurd b
  one_none f c-RequiredFlag es ts (x ∷ bs) fs later n t b a = rw (field_none inside k v (entry f c-RequiredFlag) (flag_sound inside v c-RequiredFlag (field_of f v) x b.0) (agrees f)) (later ts bs fs n t b.1 a)
  one_none f c-Refused es ts bs fs later n t b a = rw (field_none inside k v (entry f c-Refused) (absent_holds (field_of f v) n.0, refl) (agrees f)) (later ts bs fs n.1 t b a)
  one_none f (c-Child s often) es ts bs done later n t b a = absurd a
  one_none f (c-Child s often) es ts bs (x then fs) later n t b a = rw (field_none inside k v (entry f (c-Child s often)) (child_sound inside none v s often (field_of f v) x a.0) (agrees f)) (later ts bs fs n t b a.1)

  fields_none : (es : List Entry) (ts : List (Option Text)) (bs : List Bool) (fs : Fields)
      → NoneStands (filter is_refused es) v → TextsAre (filter is_text es) v ts → FlagsAre (filter is_flag es) v bs → AreFields v (filter is_child es) fs
      → fields_faults inside k v es ≡ []
  fields_none [] ts bs fs n t b a = refl
  fields_none (e ∷ es) ts bs fs n t b a = one_none e.field e.content es ts bs fs (λ us cs gs. fields_none es us cs gs) n t b a

  -- of an array or of another kind
  kind_none : (o : Option ElementsPlace) → elements_of (entries k) ≡ o → (ts : List (Option Text)) (bs : List Bool) (fs : Fields)
      → NoneStands (refused_entries k) v → TextsAre (text_entries k) v ts → FlagsAre (flag_entries k) v bs → AreChildren k v fs
      → fields_faults inside k v (entries k) ≡ []
  kind_none None is ts bs fs n t b a = fields_none (entries k) ts bs fs n t b (children_are_fields k v is fs a)
  kind_none (Some p) is ts bs fs n t b a =
      array_faults inside k v p is ∙ ap (under (s-Field p.field)) (array_none inside none p.sort p.last (list_of (field_of p.field v)) fs (children_are_elements k v p is fs a))

-- ---- a node

module _ (inside : Inside) (none : (s : Sort) (d : Data) (t : Tree) → IsForm s d t → inside s d ≡ []) where
  node_none : (s : Sort) (v : Data) (t : Tree) → IsForm s v t → node_faults inside s v ≡ []
  node_none s null (node k l fs) h = let bad = h.0 in absurd (cc bad)
  node_none s (boolean x) (node k l fs) h = let bad = h.0 in absurd (cc bad)
  node_none s (number n) (node k l fs) h = let bad = h.0 in absurd (cc bad)
  node_none s (string x) (node k l fs) h = let bad = h.0 in absurd (cc bad)
  node_none s (array ds) (node k l fs) h = let bad = h.0 in absurd (cc bad)
  node_none s (object ms) (node k l fs) h =
      ap (λ o. kind_faults inside o (object ms)) h.0
      ∙ ap (λ b. under (s-Field f-Start) (here b) ++ under (s-Field f-End) (here (offset_holds (field_of f-End (object ms)))) ++ fields_faults inside k (object ms) (entries k)) (offset_none (field_of f-Start (object ms)) l.start h.1)
      ∙ ap (λ b. under (s-Field f-End) (here b) ++ fields_faults inside k (object ms) (entries k)) (offset_none (field_of f-End (object ms)) l.stop h.2)
      ∙ kind_none inside none k (object ms) (agrees_everywhere k (object ms) h.7) (elements_of (entries k)) refl l.texts l.flags fs h.3 h.4 h.5 h.6

within_none : (n : ℕ) (s : Sort) (v : Data) (t : Tree) → IsForm s v t → faults_within n s v ≡ []
within_none zero s v t h = refl
within_none (suc n) s v t h = node_none (faults_within n) (within_none n) s v t h

-- Where some tree is a form of the value, no place fails.
pub no_faults : (s : Sort) (v : Data) (t : Tree) → IsForm s v t → faults s v ≡ []
unfolding faults
no_faults s v t h = within_none (suc (depth v)) s v t h
