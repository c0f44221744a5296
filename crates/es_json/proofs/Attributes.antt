-- The texts, the truth values and the children of a written node stand in its fields.
use Rattle.std.proofs.Common.{◌≡◌, ◌⊎◌, inl, inr, suc, List, [], ◌∷◌, drop, filter, length, get_or, Bool, true, false, Option, Some, None, refl, sym, subst}
use Rattle.serde_json.specs.Data.{Data, boolean}
use Rattle.es_tree.specs.Words.{Text}
use Rattle.es_tree.specs.Attributes.{is_text, is_flag, is_refused, is_child, text_fits, texts_fit}
use Rattle.es_tree.specs.declared.table.FieldName.{FieldName}
use Rattle.es_tree.specs.declared.table.Entry.{Entry}
use Rattle.es_tree.specs.declared.table.Content.{Content}
use Rattle.es_tree.specs.declared.table.Content.TheVariants.{
  Text as c-Text,
  OptionalText as c-OptionalText,
  Flag as c-Flag,
  RequiredFlag as c-RequiredFlag,
  Refused as c-Refused,
  Child as c-Child,
}
use Rattle.es_json.specs.Values.{field_of, TextIs, TextsAre, FlagIs, FlagsAre, IsAbsent, NoneStands}
use Rattle.es_json.specs.Canonical.{text_value}
use Rattle.std.proofs.lemmas.Bool.{and_parts}
use Rattle.es_json.proofs.ReadsBack.{HasEntries, written_value, children_left}

abbrev entry : FieldName → Content → Entry
entry f k = record { field = f; content = k }

text_is : (k : Content) (t : Option Text) → text_fits k t ≡ true → TextIs k (Some (text_value t)) t
text_is (c-Text r) None h = absurd (cc h)
text_is (c-Text r) (Some t) h = (refl, h)
text_is c-OptionalText None h = tt
text_is c-OptionalText (Some t) h = refl
text_is c-Flag t h = absurd (cc h)
text_is c-RequiredFlag t h = absurd (cc h)
text_is c-Refused t h = absurd (cc h)
text_is (c-Child s o) t h = absurd (cc h)

texts_are_one : (v : Data) (f : FieldName) (k : Content) (es : List Entry) (ts : List (Option Text))
    → field_of f v ≡ Some (text_value (get_or ts 0 None)) → (texts_fit es (drop 1 ts) ≡ true → TextsAre es v (drop 1 ts))
    → texts_fit (entry f k ∷ es) ts ≡ true → TextsAre (entry f k ∷ es) v ts
texts_are_one v f k es [] here later fit = absurd (cc fit)
texts_are_one v f k es (t ∷ ts) here later fit =
    (subst (λ o. TextIs k o t) (sym here) (text_is k t (and_parts (text_fits k t) _ fit).0), later (and_parts (text_fits k t) _ fit).1)

texts_are_at : (v : Data) (f : FieldName) (k : Content) (es : List Entry) (ts : List (Option Text)) (bs : List Bool) (ds : List Data)
    → ((ts : List (Option Text)) (bs : List Bool) (ds : List Data) → HasEntries v es ts bs ds → texts_fit (filter is_text es) ts ≡ true → TextsAre (filter is_text es) v ts)
    → HasEntries v (entry f k ∷ es) ts bs ds → texts_fit (filter is_text (entry f k ∷ es)) ts ≡ true → TextsAre (filter is_text (entry f k ∷ es)) v ts
texts_are_at v f (c-Text r) es ts bs ds ih h fit = texts_are_one v f (c-Text r) _ ts h.0 (ih _ _ _ h.1) fit
texts_are_at v f c-OptionalText es ts bs ds ih h fit = texts_are_one v f c-OptionalText _ ts h.0 (ih _ _ _ h.1) fit
texts_are_at v f c-Flag es ts bs ds ih h fit = ih _ _ _ h.1 fit
texts_are_at v f c-RequiredFlag es ts bs ds ih h fit = ih _ _ _ h.1 fit
texts_are_at v f c-Refused es ts bs ds ih h fit = ih _ _ _ h.1 fit
texts_are_at v f (c-Child s o) es ts bs ds ih h fit = ih _ _ _ h.1 fit

pub texts_are : (v : Data) (es : List Entry) (ts : List (Option Text)) (bs : List Bool) (ds : List Data)
    → HasEntries v es ts bs ds → texts_fit (filter is_text es) ts ≡ true → TextsAre (filter is_text es) v ts
texts_are v [] [] bs ds h fit = tt
texts_are v [] (t ∷ ts) bs ds h fit = absurd (cc fit)
texts_are v (e ∷ es) ts bs ds h fit = texts_are_at v e.field e.content es ts bs ds (texts_are v es) h fit

flag_is : (k : Content) (b : Bool) → (k ≡ c-Flag) ⊎ (k ≡ c-RequiredFlag) → FlagIs k (Some (boolean b)) b
flag_is k b (inl h) = rw h refl
flag_is k b (inr h) = rw h refl

flags_are_one : (v : Data) (f : FieldName) (k : Content) (es : List Entry) (bs : List Bool) → (k ≡ c-Flag) ⊎ (k ≡ c-RequiredFlag)
    → field_of f v ≡ Some (boolean (get_or bs 0 false)) → (length (drop 1 bs) ≡ length es → FlagsAre es v (drop 1 bs))
    → length bs ≡ suc (length es) → FlagsAre (entry f k ∷ es) v bs
flags_are_one v f k es [] is here later fit = absurd (cc fit)
flags_are_one v f k es (b ∷ bs) is here later fit = (subst (λ o. FlagIs k o b) (sym here) (flag_is k b is), later (cc))

flags_are_at : (v : Data) (f : FieldName) (k : Content) (es : List Entry) (ts : List (Option Text)) (bs : List Bool) (ds : List Data)
    → ((ts : List (Option Text)) (bs : List Bool) (ds : List Data) → HasEntries v es ts bs ds → length bs ≡ length (filter is_flag es) → FlagsAre (filter is_flag es) v bs)
    → HasEntries v (entry f k ∷ es) ts bs ds → length bs ≡ length (filter is_flag (entry f k ∷ es)) → FlagsAre (filter is_flag (entry f k ∷ es)) v bs
flags_are_at v f (c-Text r) es ts bs ds ih h fit = ih _ _ _ h.1 fit
flags_are_at v f c-OptionalText es ts bs ds ih h fit = ih _ _ _ h.1 fit
flags_are_at v f c-Flag es ts bs ds ih h fit = flags_are_one v f c-Flag _ bs (inl refl) h.0 (ih _ _ _ h.1) fit
flags_are_at v f c-RequiredFlag es ts bs ds ih h fit = flags_are_one v f c-RequiredFlag _ bs (inr refl) h.0 (ih _ _ _ h.1) fit
flags_are_at v f c-Refused es ts bs ds ih h fit = ih _ _ _ h.1 fit
flags_are_at v f (c-Child s o) es ts bs ds ih h fit = ih _ _ _ h.1 fit

pub flags_are : (v : Data) (es : List Entry) (ts : List (Option Text)) (bs : List Bool) (ds : List Data)
    → HasEntries v es ts bs ds → length bs ≡ length (filter is_flag es) → FlagsAre (filter is_flag es) v bs
flags_are v [] ts [] ds h fit = tt
flags_are v [] ts (b ∷ bs) ds h fit = absurd (cc fit)
flags_are v (e ∷ es) ts bs ds h fit = flags_are_at v e.field e.content es ts bs ds (flags_are v es) h fit

none_stands_at : (v : Data) (f : FieldName) (k : Content) (es : List Entry) (ts : List (Option Text)) (bs : List Bool) (ds : List Data)
    → NoneStands (filter is_refused es) v → HasEntries v (entry f k ∷ es) ts bs ds → NoneStands (filter is_refused (entry f k ∷ es)) v
none_stands_at v f (c-Text r) es ts bs ds later h = later
none_stands_at v f c-OptionalText es ts bs ds later h = later
none_stands_at v f c-Flag es ts bs ds later h = later
none_stands_at v f c-RequiredFlag es ts bs ds later h = later
none_stands_at v f c-Refused es ts bs ds later h = (subst IsAbsent (sym h.0) tt, later)
none_stands_at v f (c-Child s o) es ts bs ds later h = later

pub none_stands : (v : Data) (es : List Entry) (ts : List (Option Text)) (bs : List Bool) (ds : List Data)
    → HasEntries v es ts bs ds → NoneStands (filter is_refused es) v
none_stands v [] ts bs ds h = tt
none_stands v (e ∷ es) ts bs ds h = none_stands_at v e.field e.content es ts bs ds (none_stands v es _ _ _ h.1) h

-- the fields of these entries for children hold these values
abbrev pub HoldChildren : Data → List Entry → List Data → Type 0
HoldChildren v [] ds = Unit {0}
HoldChildren v (e ∷ es) ds = (field_of e.field v ≡ written_value e.content [] [] ds) × HoldChildren v es (children_left e.content ds)

hold_children_at : (v : Data) (f : FieldName) (k : Content) (es : List Entry) (ts : List (Option Text)) (bs : List Bool) (ds : List Data)
    → HoldChildren v (filter is_child es) (children_left k ds) → HasEntries v (entry f k ∷ es) ts bs ds → HoldChildren v (filter is_child (entry f k ∷ es)) ds
hold_children_at v f (c-Text r) es ts bs ds later h = later
hold_children_at v f c-OptionalText es ts bs ds later h = later
hold_children_at v f c-Flag es ts bs ds later h = later
hold_children_at v f c-RequiredFlag es ts bs ds later h = later
hold_children_at v f c-Refused es ts bs ds later h = later
hold_children_at v f (c-Child s o) es ts bs ds later h = (h.0, later)

pub hold_children : (v : Data) (es : List Entry) (ts : List (Option Text)) (bs : List Bool) (ds : List Data)
    → HasEntries v es ts bs ds → HoldChildren v (filter is_child es) ds
hold_children v [] ts bs ds h = tt
hold_children v (e ∷ es) ts bs ds h = hold_children_at v e.field e.content es ts bs ds (hold_children v es _ _ _ h.1) h
