-- What is read of a value of a known kind.
use Rattle.std.proofs.Common.{◌≡◌, ℕ, zero, suc, ◌<◌, arith, length, List, [], ◌∷◌, get_or, filter, Bool, true, false, not, ◌||◌, Option, Some, None, is_some, MatchOption, refl, sym, ap, ◌∙◌, subst}
use Rattle.serde_json.specs.Data.{Data}
use Rattle.es_tree.specs.Words.{Text}
use Rattle.es_tree.specs.Table.{entries}
use Rattle.es_tree.specs.Tree.{Fields, all_types, type_number, type_at-number}
use Rattle.es_tree.specs.Heads.{Head, head}
use Rattle.es_tree.specs.Attributes.{is_text, is_flag, is_refused, is_child, text_entries, flag_entries, refused_entries, child_entries, no_marks}
use Rattle.es_tree.specs.declared.ast_type.AstType.{AstType}
use Rattle.es_tree.specs.declared.ast_type.AstType.TheVariants.{Program, TemplateLiteral, TryStatement, MetaProperty}
use Rattle.es_tree.specs.declared.table.FieldName.{FieldName}
use Rattle.es_tree.specs.declared.table.Sort.{Sort}
use Rattle.es_tree.specs.declared.table.Entry.{Entry}
use Rattle.es_tree.specs.declared.table.Content.{Content}
use Rattle.es_tree.specs.declared.table.Content.TheVariants.{
  Text as c-Text,
  OptionalText as c-OptionalText,
  Flag as c-Flag,
  RequiredFlag as c-RequiredFlag,
  Refused as c-Refused,
  Child as c-Child,
}
use Rattle.es_json.specs.Values.{field_of, NoneStands, TextsAre, FlagsAre, list_of, value_agrees}
use Rattle.es_json.specs.Form.{ElementsPlace, elements_by, elements_of, AreFields, AreElements}
use Rattle.es_json.specs.Parts.{AreChildren, AreParts}
use Rattle.std.specs.List.{list_all}
use Rattle.std.proofs.lemmas.Bool.{and_parts}
use Rattle.es_tree.specs.declared.table.Often.{Often}
use Rattle.es_json.specs.Faults.{holds_elements}
use Rattle.es_json.proofs.Entries.{entry}

-- ---- a fact of each kind

both : Bool → Bool → Bool
both true b = b
both false b = false

each : (AstType → Bool) → List AstType → Bool
each p [] = true
each p (k ∷ ks) = both (p k) (each p ks)

both_are : (a b : Bool) → both a b ≡ true → (a ≡ true) × (b ≡ true)
unfolding both
both_are true b h = (refl, h)
both_are false b h = absurd (cc)

each_at : (p : AstType → Bool) (ks : List AstType) (n : ℕ) (d : AstType) → each p ks ≡ true → p d ≡ true → p (get_or ks n d) ≡ true
unfolding each
each_at p [] n d h base = base
each_at p (k ∷ ks) zero d h base = (both_are (p k) (each p ks) h).0
each_at p (k ∷ ks) (suc n) d h base = each_at p ks n d (both_are (p k) (each p ks) h).1 base

of_each : (p : AstType → Bool) → each p all_types ≡ true → p Program ≡ true → (k : AstType) → p k ≡ true
of_each p h base k = let P : AstType → Type 0 = λ j. p j ≡ true in subst P (type_at-number k) (each_at p all_types (type_number k) Program h base)

-- the elements of an array are its only field
alone : AstType → Bool
alone k = is_some (elements_of (entries k)) || not (is_some (elements_of (child_entries k)))

alone_always : (k : AstType) → alone k ≡ true
unfolding alone each both
alone_always k = of_each alone refl refl k

none_here : (o p : Option ElementsPlace) → (is_some o || not (is_some p)) ≡ true → o ≡ None → p ≡ None
none_here o None h is = refl
none_here None (Some p) h is = absurd (cc)
none_here (Some o) (Some p) h is = absurd (cc)

no_elements : (k : AstType) → elements_of (entries k) ≡ None → elements_of (child_entries k) ≡ None
unfolding alone
no_elements k is = none_here (elements_of (entries k)) (elements_of (child_entries k)) (alone_always k) is

-- ---- arrays

array_entry : (f : FieldName) (k : Content) (p : ElementsPlace) → elements_by f k ≡ Some p
    → (filter is_text (entry f k ∷ []) ≡ []) × (filter is_flag (entry f k ∷ []) ≡ []) × (filter is_child (entry f k ∷ []) ≡ entry f k ∷ []) × (filter is_refused (entry f k ∷ []) ≡ [])
array_entry f (c-Text r) p is = absurd (cc)
array_entry f c-OptionalText p is = absurd (cc)
array_entry f c-Flag p is = absurd (cc)
array_entry f c-RequiredFlag p is = absurd (cc)
array_entry f c-Refused p is = absurd (cc)
array_entry f (c-Child s o) p is = (refl, refl, refl, refl)

array_entries : (es : List Entry) (p : ElementsPlace) → elements_of es ≡ Some p
    → (filter is_text es ≡ []) × (filter is_flag es ≡ []) × (filter is_child es ≡ es) × (filter is_refused es ≡ [])
array_entries [] p is = absurd (cc)
array_entries (e ∷ []) p is = array_entry e.field e.content p is
array_entries (e ∷ (f ∷ es)) p is = absurd (cc)

pub array_agrees : (k : AstType) (v : Data) (p : ElementsPlace) → elements_of (entries k) ≡ Some p → value_agrees k v ≡ true
array_agrees TemplateLiteral v p is = absurd (cc is)
array_agrees TryStatement v p is = absurd (cc is)
array_agrees MetaProperty v p is = absurd (cc is)
array_agrees _ v p is = refl

module _ (k : AstType) (v : Data) (p : ElementsPlace) (is : elements_of (entries k) ≡ Some p) where
  pub no_texts_of_array : text_entries k ≡ []
  no_texts_of_array = (array_entries (entries k) p is).0

  pub no_flags_of_array : flag_entries k ≡ []
  no_flags_of_array = (array_entries (entries k) p is).1

  place_of_array : elements_of (child_entries k) ≡ Some p
  place_of_array = ap elements_of (array_entries (entries k) p is).2 ∙ is

  pub children_are_elements : (fs : Fields) → AreChildren k v fs → AreElements p.sort p.last (list_of (field_of p.field v)) fs
  children_are_elements fs are =
      let C : Option ElementsPlace → Type 0 = λ o. MatchOption o (AreFields v (child_entries k) fs) (λ q. AreElements q.sort q.last (list_of (field_of q.field v)) fs) in
      subst C place_of_array are

-- ---- other kinds

module _ (k : AstType) (v : Data) (is : elements_of (entries k) ≡ None) where
  pub children_are_fields : (fs : Fields) → AreChildren k v fs → AreFields v (child_entries k) fs
  children_are_fields fs are =
      let C : Option ElementsPlace → Type 0 = λ o. MatchOption o (AreFields v (child_entries k) fs) (λ q. AreElements q.sort q.last (list_of (field_of q.field v)) fs) in
      subst C (no_elements k is) are

  pub fields_parts : (h : Head) (ts : List (Option Text)) (bs : List Bool) (fs : Fields) → h ≡ head k ts bs (no_marks k)
      → TextsAre (text_entries k) v ts → FlagsAre (flag_entries k) v bs → AreFields v (child_entries k) fs
      → NoneStands (refused_entries k) v → value_agrees k v ≡ true → AreParts k v h fs
  fields_parts h ts bs fs same texts flags children none agrees =
      let P : Head → Type 0 = λ g. AreParts k v g fs in
      let C : Option ElementsPlace → Type 0 = λ o. MatchOption o (AreFields v (child_entries k) fs) (λ q. AreElements q.sort q.last (list_of (field_of q.field v)) fs) in
      subst P (sym same) (refl, texts, flags, refl, subst C (sym (no_elements k is)) children, none, agrees)

-- ---- a kind that is no array has no elements

holds_none : Content → Bool
holds_none (c-Child s o) = not (holds_elements o)
holds_none c = true

none_held : AstType → Bool
none_held k = is_some (elements_of (entries k)) || list_all (λ e. holds_none e.content) (entries k)

none_held_always : (k : AstType) → none_held k ≡ true
unfolding none_held each both holds_none
none_held_always k = of_each none_held refl refl k

held_at : (es : List Entry) (i : ℕ) (d : Entry) → i < length es → list_all (λ e. holds_none e.content) es ≡ true → holds_none (get_or es i d).content ≡ true
held_at [] i d l h = absurd (omega arith)
held_at (e ∷ es) zero d l h = (and_parts (holds_none e.content) _ h).0
held_at (e ∷ es) (suc i) d l h = held_at es i d (omega arith) (and_parts (holds_none e.content) _ h).1

all_held : (o : Option ElementsPlace) (b : Bool) → o ≡ None → (is_some o || b) ≡ true → b ≡ true
all_held None b is h = h
all_held (Some p) b is h = absurd (cc is)

not_held : (b : Bool) → not b ≡ true → b ≡ false
not_held true h = absurd (cc h)
not_held false h = refl

pub no_elements_at : (k : AstType) (es : List Entry) (i : ℕ) (d : Entry) (s : Sort) (o : Often) → elements_of (entries k) ≡ None → es ≡ entries k → i < length es
    → (get_or es i d).content ≡ c-Child s o → holds_elements o ≡ false
unfolding none_held holds_none
no_elements_at k es i d s o is same l content =
    let all : list_all (λ e. holds_none e.content) (entries k) ≡ true = all_held (elements_of (entries k)) _ is (none_held_always k) in
    let at : holds_none (get_or es i d).content ≡ true = held_at es i d l (subst (λ (l : List Entry). list_all (λ e. holds_none e.content) l ≡ true) (sym same) all) in
    not_held (holds_elements o) (subst (λ (c : Content). holds_none c ≡ true) content at)
