-- The sort of a place is the same by a value and by the node that it is a form of.
use Rattle.std.proofs.Common.{◌≡◌, ◌⊎◌, inl, inr, List, [], ◌∷◌, Bool, true, false, Option, Some, None, refl}
use Rattle.std.proofs.lemmas.Slice.Eq.{bytes_eq-Decides}
use Rattle.std.specs.List.{list_any}
use Rattle.serde_json.specs.Data.{Data, null, boolean, string}
use Rattle.es_tree.specs.Words.{Text}
use Rattle.es_tree.specs.Table.{field_text}
use Rattle.es_tree.specs.Tree.{Label}
use Rattle.es_tree.specs.Attributes.{text_entries, flag_entries}
use Rattle.es_tree.specs.HasForm.{has_name, flag_of, text_of, is_in as node_is_in, sort_at}
use Rattle.es_tree.specs.declared.ast_type.AstType.{AstType}
use Rattle.es_tree.specs.declared.table.FieldName.{FieldName}
use Rattle.es_tree.specs.declared.table.FieldName.TheVariants.{Computed as f-Computed, Operator as f-Operator}
use Rattle.es_tree.specs.declared.table.Entry.{Entry}
use Rattle.es_tree.specs.declared.table.Sort.{Sort}
use Rattle.es_tree.specs.declared.table.Sort.TheVariants.{PropertyKey as s-PropertyKey, MemberProperty as s-MemberProperty, BinaryLeft as s-BinaryLeft}
use Rattle.es_tree.specs.declared.table.Content.{Content}
use Rattle.es_tree.specs.declared.table.Content.TheVariants.{Text as c-Text, OptionalText as c-OptionalText, Flag as c-Flag, RequiredFlag as c-RequiredFlag}
use Rattle.es_json.specs.Values.{field_of, TextIs, TextsAre, FlagIs, FlagsAre, is_computed, is_in, sort_in}
use Rattle.es_json.specs.Canonical.{text_value}
use Rattle.es_json.proofs.TableFacts.{has_deciding_field}

-- a truth value stands, or nothing where it is false; likewise a text
abbrev FlagStands : Option Data → Bool → Type 0
FlagStands o b = ((o ≡ None) × (b ≡ false)) ⊎ (o ≡ Some (boolean b))

abbrev TextStands : Option Data → Option Text → Type 0
TextStands o t = ((o ≡ None) × (t ≡ None)) ⊎ (o ≡ Some (text_value t))

flag_stands : (c : Content) (o : Option Data) (b : Bool) → FlagIs c o b → FlagStands o b
flag_stands c-Flag None b h = inl (refl, h)
flag_stands c-Flag (Some (boolean x)) b h = inr (rw h refl)
flag_stands c-RequiredFlag (Some (boolean x)) b h = inr (rw h refl)
flag_stands _ _ b h = absurd h

text_stands : (c : Content) (o : Option Data) (t : Option Text) → TextIs c o t → TextStands o t
text_stands (c-Text r) (Some (string s)) (Some t) h = inr (rw h.0 refl)
text_stands c-OptionalText None None h = inl (refl, refl)
text_stands c-OptionalText (Some null) None h = inr refl
text_stands c-OptionalText (Some (string s)) (Some t) h = inr (rw h refl)
text_stands _ _ _ h = absurd h

named : (f : FieldName) (e : Entry) (v : Data) → has_name f e ≡ true → field_of e.field v ≡ field_of f v
named f e v h = rw ((bytes_eq-Decides (field_text f) (field_text e.field)).0 h) refl

flag_by : (f : FieldName) (v : Data) (e : Entry) (es : List Entry) (b : Bool) (bs : List Bool) (here : Bool) → has_name f e ≡ here
    → FlagsAre (e ∷ es) v (b ∷ bs) → (list_any (has_name f) es ≡ true → FlagStands (field_of f v) (flag_of f es bs))
    → list_any (has_name f) (e ∷ es) ≡ true → FlagStands (field_of f v) (flag_of f (e ∷ es) (b ∷ bs))
flag_by f v e es b bs true is h later among = rw (is, ← named f e v is) (flag_stands e.content (field_of e.field v) b h.0)
flag_by f v e es b bs false is h later among = rw is (later (rw is at among))

flag_found : (f : FieldName) (v : Data) (es : List Entry) (bs : List Bool) → FlagsAre es v bs → list_any (has_name f) es ≡ true → FlagStands (field_of f v) (flag_of f es bs)
flag_found f v [] bs h among = absurd (cc among)
flag_found f v (e ∷ es) [] h among = absurd h
flag_found f v (e ∷ es) (b ∷ bs) h among = flag_by f v e es b bs (has_name f e) refl h (flag_found f v es bs h.1) among

text_by : (f : FieldName) (v : Data) (e : Entry) (es : List Entry) (t : Option Text) (ts : List (Option Text)) (here : Bool) → has_name f e ≡ here
    → TextsAre (e ∷ es) v (t ∷ ts) → (list_any (has_name f) es ≡ true → TextStands (field_of f v) (text_of f es ts))
    → list_any (has_name f) (e ∷ es) ≡ true → TextStands (field_of f v) (text_of f (e ∷ es) (t ∷ ts))
text_by f v e es t ts true is h later among = rw (is, ← named f e v is) (text_stands e.content (field_of e.field v) t h.0)
text_by f v e es t ts false is h later among = rw is (later (rw is at among))

text_found : (f : FieldName) (v : Data) (es : List Entry) (ts : List (Option Text)) → TextsAre es v ts → list_any (has_name f) es ≡ true → TextStands (field_of f v) (text_of f es ts)
text_found f v [] ts h among = absurd (cc among)
text_found f v (e ∷ es) [] h among = absurd h
text_found f v (e ∷ es) (t ∷ ts) h among = text_by f v e es t ts (has_name f e) refl h (text_found f v es ts h.1) among

computed_by : (v : Data) (b : Bool) → FlagStands (field_of f-Computed v) b → is_computed v ≡ b
computed_by v b (inl h) = rw (h.0, h.1) refl
computed_by v b (inr h) = rw h refl

in_by : (v : Data) (k : AstType) (l : Label) (t : Option Text) → text_of f-Operator (text_entries k) l.texts ≡ t → TextStands (field_of f-Operator v) t → is_in v ≡ node_is_in k l
in_by v k l None e (inl h) = rw (h.0, e) refl
in_by v k l (Some t) e (inl h) = let bad = h.1 in absurd (cc bad)
in_by v k l None e (inr h) = rw (h, e) refl
in_by v k l (Some t) e (inr h) = rw (h, e) refl

-- at each place that the kind has
abbrev pub SortsAgree : AstType → Label → Data → Type 0
SortsAgree k l v = (s : Sort) → has_deciding_field k s ≡ true → sort_in v s ≡ sort_at k l s

pub sort_in-node : (k : AstType) (l : Label) (v : Data) → TextsAre (text_entries k) v l.texts → FlagsAre (flag_entries k) v l.flags → SortsAgree k l v
sort_in-node k l v texts flags s-PropertyKey h = rw (computed_by v _ (flag_found f-Computed v (flag_entries k) l.flags flags h)) refl
sort_in-node k l v texts flags s-MemberProperty h = rw (computed_by v _ (flag_found f-Computed v (flag_entries k) l.flags flags h)) refl
sort_in-node k l v texts flags s-BinaryLeft h =
    rw (in_by v k l (text_of f-Operator (text_entries k) l.texts) refl (text_found f-Operator v (text_entries k) l.texts texts h)) refl
sort_in-node k l v texts flags _ h = refl
