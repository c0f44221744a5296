-- A tree that a value is a form of has form.
use Rattle.std.proofs.Common.{◌≡◌, ◌<◌, ◌^◌, ◌==◌, ◌⊎◌, inl, inr, ℕ, suc, List, [], ◌∷◌, length, Bool, true, false, not, ◌&&◌, ◌||◌, Option, Some, None, option_and_then, find, MatchOption, if◌then◌else◌, bytes_eq, codes, refl, ap, ◌∙◌, subst, lit<}
use Rattle.std.proofs.lemmas.Bool.{and_parts, and_from, or_left, or_right, eq-eqb}
use Rattle.std.proofs.lemmas.List.Folds.{list_any-append}
use Rattle.std.specs.List.{list_any, list_all}
use Rattle.serde_json.specs.Data.{Data, null, string, Items, no_items, item}
use Rattle.es_tree.specs.Words.{Text}
use Rattle.es_tree.specs.Table.{own_kinds, takes_expressions, kind_named, is_named, first_of, rest_sort}
use Rattle.es_tree.specs.Tree.{Tree, node, Label, Fields, done, ◌then◌, Field, missing, one, many, statements, Trees, empty, ◌before◌, type_number}
use Rattle.es_tree.specs.Attributes.{text_entries, flag_entries, child_entries, text_fits, texts_fit}
use Rattle.es_tree.specs.Agree.{fields_agree, quasis_fit, is_guarded, is_meta_pair, trees_count, is_missing}
use Rattle.es_tree.specs.HasForm.{ElementsPlace, elements_of, same_type, is_of_sort, sort_before_trees, sort_before_fields, match_option, has_form, elements_form, element_form, fields_form, field_form, trees_form}
use Rattle.es_tree.proofs.NodeForm.{has_form-node}
use Rattle.es_tree.specs.declared.ast_type.AstType.{AstType}
use Rattle.es_tree.specs.declared.ast_type.AstType.TheVariants.{TemplateLiteral, TryStatement, MetaProperty}
use Rattle.es_tree.specs.declared.sort_kinds.TheConstants.{EXPRESSION_KINDS}
use Rattle.es_tree.specs.declared.table.FieldName.TheVariants.{Start as f-Start, End as f-End, Handler as f-Handler, Finalizer as f-Finalizer, Meta as f-Meta, Property as f-Property}
use Rattle.es_tree.specs.declared.table.Entry.{Entry}
use Rattle.es_tree.specs.declared.table.Sort.{Sort}
use Rattle.es_tree.specs.declared.table.TextRule.TheVariants.{Any as r-Any, Meta as r-Meta}
use Rattle.es_tree.specs.declared.table.Often.TheVariants.{Required, Optional, List as a-List, NonEmptyList, ListWithRest, Statements}
use Rattle.es_tree.specs.declared.table.Content.{Content}
use Rattle.es_tree.specs.declared.table.Content.TheVariants.{Text as c-Text, OptionalText as c-OptionalText, Child as c-Child}
use Rattle.es_json.specs.Values.{field_of, IsOffset, TextIs, TextsAre, FlagsAre, sort_in, list_of, sort_before, items_count, counts_fit, stands, is_word, value_agrees}
use Rattle.es_json.specs.Form.{IsForm, AreElements, IsElement, AreFields, IsChild, AreItems}
use Rattle.es_json.proofs.TableFacts.{content_decides, decides, children-decide}
use Rattle.es_json.proofs.Sorts.{SortsAgree, sort_in-node}

-- ---- the kind

type_itself : (k : AstType) → same_type k k ≡ true
type_itself k = eq-eqb (type_number k) (type_number k) refl

found_at : (p : AstType → Bool) (j : AstType) (ks : List AstType) (k : AstType) (b : Bool) → p j ≡ b → (find p ks ≡ Some k → list_any (same_type k) ks ≡ true)
    → find p (j ∷ ks) ≡ Some k → list_any (same_type k) (j ∷ ks) ≡ true
found_at p j ks k true is later h =
    let here = rw is at h in
    let same : j ≡ k = cc in
    or_left (same_type k j) _ (rw same (type_itself k))
found_at p j ks k false is later h = or_right (same_type k j) _ (later (rw is at h))

found_among : (p : AstType → Bool) (ks : List AstType) (k : AstType) → find p ks ≡ Some k → list_any (same_type k) ks ≡ true
found_among p [] k h = absurd (cc h)
found_among p (j ∷ ks) k h = found_at p j ks k (p j) refl (found_among p ks k) h

first_found : (a b : Option AstType) (k : AstType) → first_of a b ≡ Some k → (a ≡ Some k) ⊎ (b ≡ Some k)
first_found None b k h = inr h
first_found (Some a) b k h = inl h

found_if : (p : AstType → Bool) (ks : List AstType) (k : AstType) (b : Bool) → (if b then find p ks else None) ≡ Some k → list_any (same_type k) (if b then ks else []) ≡ true
found_if p ks k true h = found_among p ks k h
found_if p ks k false h = absurd (cc h)

either_among : (s : Sort) (name : Text) (k : AstType)
    → (find (is_named name) (own_kinds s) ≡ Some k) ⊎ ((if takes_expressions s then find (is_named name) EXPRESSION_KINDS else None) ≡ Some k)
    → (list_any (same_type k) (own_kinds s) || list_any (same_type k) (if takes_expressions s then EXPRESSION_KINDS else [])) ≡ true
either_among s name k (inl h) = or_left (list_any (same_type k) (own_kinds s)) _ (found_among (is_named name) (own_kinds s) k h)
either_among s name k (inr h) = or_right (list_any (same_type k) (own_kinds s)) _ (found_if (is_named name) EXPRESSION_KINDS k (takes_expressions s) h)

named_of_sort : (s : Sort) (name : Text) (k : AstType) → kind_named s name ≡ Some k → is_of_sort s k ≡ true
named_of_sort s name k h =
    list_any-append (same_type k) (own_kinds s) (if takes_expressions s then EXPRESSION_KINDS else [])
    ∙ either_among s name k (first_found (find (is_named name) (own_kinds s)) _ k h)

here_of_sort : (s : Sort) (o : Option Text) (k : AstType) → option_and_then (kind_named s) o ≡ Some k → is_of_sort s k ≡ true
here_of_sort s None k h = absurd (cc h)
here_of_sort s (Some name) k h = named_of_sort s name k h

-- ---- what the node says by itself

offset_below : (o : Option Data) (n : ℕ) → IsOffset o n → n < 2 ^ 32
offset_below None n h = rw h (lit< tt)
offset_below (Some v) n h = h.1

text_fits_by : (c : Content) (o : Option Data) (t : Option Text) → TextIs c o t → text_fits c t ≡ true
text_fits_by (c-Text r) (Some (string s)) (Some t) h = h.1
text_fits_by c-OptionalText None None h = refl
text_fits_by c-OptionalText (Some null) None h = refl
text_fits_by c-OptionalText (Some (string s)) (Some t) h = refl
text_fits_by _ _ _ h = absurd h

texts_fit_by : (v : Data) (es : List Entry) (ts : List (Option Text)) → TextsAre es v ts → texts_fit es ts ≡ true
texts_fit_by v [] [] h = refl
texts_fit_by v (e ∷ es) (t ∷ ts) h = and_from (text_fits e.content t) _ (text_fits_by e.content (field_of e.field v) t h.0) (texts_fit_by v es ts h.1)
texts_fit_by v _ _ h = absurd h

flags_count : (v : Data) (es : List Entry) (bs : List Bool) → FlagsAre es v bs → length bs ≡ length es
flags_count v [] [] h = refl
flags_count v (e ∷ es) (b ∷ bs) h = ap suc (flags_count v es bs h.1)
flags_count v _ _ h = absurd h

-- ---- what a node's fields are to each other

counted : (s last : Sort) (ds : Items) (ts : Trees) → AreItems s last (Some ds) ts → items_count ds ≡ trees_count ts
counted s last no_items empty h = refl
counted s last (item d ds) (t before ts) h = ap suc (counted s last ds ts h.1)
counted s last _ _ h = absurd h

lists_fit : (s r : Sort) (o p : Option Items) (ts us : Trees) → AreItems s s o ts → AreItems r r p us → counts_fit o p ≡ true → (trees_count ts == suc (trees_count us)) ≡ true
lists_fit s r (Some ds) (Some es) ts us g h fit = rw (← counted s s ds ts g, ← counted r r es us h) fit
lists_fit s r None p ts us g h fit = absurd g
lists_fit s r (Some ds) None ts us g h fit = absurd h

quasis_fit_by : (v : Data) (s r : Sort) (o p : Option Data) (f g : Field) → IsChild v (c-Child s a-List) o f → IsChild v (c-Child r a-List) p g
    → counts_fit (list_of o) (list_of p) ≡ true → quasis_fit (f then (g then done)) ≡ true
quasis_fit_by v s r o p (many ts) (many us) a b fit = lists_fit s r (list_of o) (list_of p) ts us a b fit
quasis_fit_by v s r o p (many ts) missing a b fit = absurd b
quasis_fit_by v s r o p (many ts) (one u) a b fit = absurd b
quasis_fit_by v s r o p (many ts) (statements us) a b fit = absurd b
quasis_fit_by v s r o p missing g a b fit = absurd a
quasis_fit_by v s r o p (one t) g a b fit = absurd a
quasis_fit_by v s r o p (statements ts) g a b fit = absurd a

quasis_agree : (v : Data) (fs : Fields) → AreFields v (child_entries TemplateLiteral) fs → value_agrees TemplateLiteral v ≡ true → quasis_fit fs ≡ true
quasis_agree v done h fit = absurd h
quasis_agree v (f then done) h fit = absurd h.1
quasis_agree v (f then (g then done)) h fit = quasis_fit_by v _ _ _ _ f g h.0 h.1.0 fit
quasis_agree v (f then (g then (x then fs))) h fit = absurd h.1.1

-- where nothing stands, the field is missing
absent_by : (v : Data) (s : Sort) (o : Option Data) (f : Field) → IsChild v (c-Child s Optional) o f → stands o ≡ true → is_missing f ≡ false
absent_by v s None f h is = absurd (cc is)
absent_by v s (Some d) missing h is = let bad : stands (Some null) ≡ true = rw h at is in absurd (cc bad)
absent_by v s (Some d) (one t) h is = refl
absent_by v s (Some d) (many ts) h is = absurd h
absent_by v s (Some d) (statements ts) h is = absurd h

guarded_by : (a b c d : Bool) → (a ≡ true → c ≡ false) → (b ≡ true → d ≡ false) → (a || b) ≡ true → not (c && d) ≡ true
guarded_by true b c d g h is = rw (g refl) refl
guarded_by false b false d g h is = refl
guarded_by false b true d g h is = rw (h is) refl

guarded_agree : (v : Data) (fs : Fields) → AreFields v (child_entries TryStatement) fs → value_agrees TryStatement v ≡ true → is_guarded fs ≡ true
guarded_agree v done h fit = absurd h
guarded_agree v (f then done) h fit = absurd h.1
guarded_agree v (f then (g then done)) h fit = absurd h.1.1
guarded_agree v (b then (f then (g then done))) h fit =
    guarded_by (stands (field_of f-Handler v)) (stands (field_of f-Finalizer v)) (is_missing f) (is_missing g)
    (absent_by v _ (field_of f-Handler v) f h.1.0) (absent_by v _ (field_of f-Finalizer v) g h.1.1.0) fit
guarded_agree v (b then (f then (g then (x then fs)))) h fit = absurd h.1.1.1

abbrev text_is_word : Text → Option Text → Bool
text_is_word w (Some t) = bytes_eq t w
text_is_word w None = false

word_is : (c : Content) (o : Option Data) (t : Option Text) (w : Text) → TextIs c o t → is_word w o ≡ text_is_word w t
word_is (c-Text r) (Some (string s)) (Some t) w h = rw h.0 refl
word_is c-OptionalText None None w h = refl
word_is c-OptionalText (Some null) None w h = refl
word_is c-OptionalText (Some (string s)) (Some t) w h = rw h refl
word_is _ _ _ w h = absurd h

neither_fits : (a b : Bool) → ((a && false) || (b && false)) ≡ true → ⊥
neither_fits true true h = cc
neither_fits true false h = cc
neither_fits false true h = cc
neither_fits false false h = cc

words_fit : (m p : Option Text)
    → ((text_is_word (codes "new") m && text_is_word (codes "target") p) || (text_is_word (codes "import") m && text_is_word (codes "meta") p)) ≡ true
    → is_meta_pair (m ∷ (p ∷ [])) ≡ true
words_fit (Some m) (Some p) h = h
words_fit None p h = absurd (cc h)
words_fit (Some m) None h = absurd (neither_fits _ _ h)

meta_agrees : (v : Data) (ts : List (Option Text)) → TextsAre (text_entries MetaProperty) v ts → value_agrees MetaProperty v ≡ true → is_meta_pair ts ≡ true
meta_agrees v [] h fit = absurd h
meta_agrees v (t ∷ []) h fit = absurd h.1
meta_agrees v (m ∷ (p ∷ [])) h fit =
    words_fit m p (rw (
      word_is (c-Text r-Meta) (field_of f-Meta v) m (codes "new") h.0,
      word_is (c-Text r-Any) (field_of f-Property v) p (codes "target") h.1.0,
      word_is (c-Text r-Meta) (field_of f-Meta v) m (codes "import") h.0,
      word_is (c-Text r-Any) (field_of f-Property v) p (codes "meta") h.1.0,
    ) at fit)
meta_agrees v (m ∷ (p ∷ (x ∷ ts))) h fit = absurd h.1.1

agrees : (k : AstType) (v : Data) (ts : List (Option Text)) (fs : Fields) → TextsAre (text_entries k) v ts
    → MatchOption (elements_of (child_entries k)) (AreFields v (child_entries k) fs) (λ p. AreElements p.sort p.last (list_of (field_of p.field v)) fs)
    → value_agrees k v ≡ true → fields_agree k ts fs ≡ true
agrees TemplateLiteral v ts fs texts h fit = quasis_agree v fs h fit
agrees TryStatement v ts fs texts h fit = guarded_agree v fs h fit
agrees MetaProperty v ts fs texts h fit = meta_agrees v ts texts fit
agrees _ v ts fs texts h fit = refl

-- ---- the children

children_form : (k : AstType) (l : Label) (v : Data) (es : List Entry) (fs : Fields) (o : Option ElementsPlace)
    → (AreFields v es fs → fields_form k l es fs ≡ true)
    → ((p : ElementsPlace) → AreElements p.sort p.last (list_of (field_of p.field v)) fs → elements_form p.sort p.last fs ≡ true)
    → MatchOption o (AreFields v es fs) (λ p. AreElements p.sort p.last (list_of (field_of p.field v)) fs)
    → match_option o (fields_form k l es fs) (λ p. elements_form p.sort p.last fs) ≡ true
children_form k l v es fs None by_fields by_elements h = by_fields h
children_form k l v es fs (Some p) by_fields by_elements h = by_elements p h

sort_before-items : (s last : Sort) (ds : Items) (ts : Trees) → AreItems s last (Some ds) ts → sort_before s last ds ≡ sort_before_trees s last ts
sort_before-items s last no_items empty h = refl
sort_before-items s last (item d ds) (t before ts) h = refl
sort_before-items s last _ _ h = absurd h

sort_before-elements : (s last : Sort) (ds : Items) (fs : Fields) → AreElements s last (Some ds) fs → sort_before s last ds ≡ sort_before_fields s last fs
sort_before-elements s last no_items done h = refl
sort_before-elements s last (item d ds) (f then fs) h = refl
sort_before-elements s last _ _ h = absurd h

mutual
  pub form_has_form : (s : Sort) (v : Data) (t : Tree) → IsForm s v t → has_form s t ≡ true
  form_has_form s v (node k l fs) h =
      has_form-node s k l fs (record {
        sort = here_of_sort s _ k h.0;
        texts = texts_fit_by v (text_entries k) l.texts h.4;
        flags = flags_count v (flag_entries k) l.flags h.5;
        start = offset_below (field_of f-Start v) l.start h.1;
        stop = offset_below (field_of f-End v) l.stop h.2;
        agree = agrees k v l.texts fs h.4 h.6 h.7;
        children = children_form k l v (child_entries k) fs (elements_of (child_entries k))
            (λ are. fields_have_form k l v (sort_in-node k l v h.4 h.5) (child_entries k) fs (children-decide k) are)
            (λ p are. elements_have_form p.sort p.last (list_of (field_of p.field v)) fs are) h.6;
      })

  fields_have_form : (k : AstType) (l : Label) (v : Data) → SortsAgree k l v → (es : List Entry) (fs : Fields) → list_all (decides k) es ≡ true
      → AreFields v es fs → fields_form k l es fs ≡ true
  fields_have_form k l v sorts [] done decide h = refl
  fields_have_form k l v sorts (e ∷ es) (f then fs) decide h =
      let decided = and_parts (decides k e) _ decide in
      and_from (field_form k l e.content f) _ (field_has_form k l v sorts e.content (field_of e.field v) f decided.0 h.0)
      (fields_have_form k l v sorts es fs decided.1 h.1)
  fields_have_form k l v sorts _ _ decide h = absurd h

  field_has_form : (k : AstType) (l : Label) (v : Data) → SortsAgree k l v → (c : Content) (o : Option Data) (f : Field) → content_decides k c ≡ true
      → IsChild v c o f → field_form k l c f ≡ true
  field_has_form k l v sorts (c-Child s Required) (Some d) (one t) decided h =
      subst (λ s. has_form s t ≡ true) (sorts s decided) (form_has_form (sort_in v s) d t h)
  field_has_form k l v sorts (c-Child s Optional) None missing decided h = refl
  field_has_form k l v sorts (c-Child s Optional) (Some d) missing decided h = refl
  field_has_form k l v sorts (c-Child s Optional) (Some d) (one t) decided h =
      subst (λ s. has_form s t ≡ true) (sorts s decided) (form_has_form (sort_in v s) d t h)
  field_has_form k l v sorts (c-Child s a-List) o (many ts) decided h = trees_have_form s s (list_of o) ts h
  field_has_form k l v sorts (c-Child s NonEmptyList) o (many (t before ts)) decided h = trees_have_form s s (list_of o) (t before ts) h
  field_has_form k l v sorts (c-Child s ListWithRest) o (many ts) decided h = trees_have_form s (rest_sort s) (list_of o) ts h
  field_has_form k l v sorts (c-Child s Statements) o (statements ts) decided h = trees_have_form s s (list_of o) ts h
  field_has_form k l v sorts _ _ _ decided h = absurd h

  trees_have_form : (s last : Sort) (o : Option Items) (ts : Trees) → AreItems s last o ts → trees_form s last ts ≡ true
  trees_have_form s last (Some no_items) empty h = refl
  trees_have_form s last (Some (item d ds)) (t before ts) h =
      and_from (has_form (sort_before_trees s last ts) t) _
      (subst (λ s. has_form s t ≡ true) (sort_before-items s last ds ts h.1) (form_has_form (sort_before s last ds) d t h.0))
      (trees_have_form s last (Some ds) ts h.1)
  trees_have_form s last _ _ h = absurd h

  elements_have_form : (s last : Sort) (o : Option Items) (fs : Fields) → AreElements s last o fs → elements_form s last fs ≡ true
  elements_have_form s last (Some no_items) done h = refl
  elements_have_form s last (Some (item d ds)) (f then fs) h =
      and_from (element_form (sort_before_fields s last fs) f) _
      (subst (λ s. element_form s f ≡ true) (sort_before-elements s last ds fs h.1) (element_has_form (sort_before s last ds) d f h.0))
      (elements_have_form s last (Some ds) fs h.1)
  elements_have_form s last _ _ h = absurd h

  element_has_form : (s : Sort) (d : Data) (f : Field) → IsElement s d f → element_form s f ≡ true
  element_has_form s d missing h = refl
  element_has_form s d (one t) h = form_has_form s d t h
  element_has_form s d (many ts) h = absurd h
  element_has_form s d (statements ts) h = absurd h
