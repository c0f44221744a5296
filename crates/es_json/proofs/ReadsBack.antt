-- What a written node has at its fields.
use Rattle.std.proofs.Common.{◌≡◌, ℕ, List, [], ◌∷◌, map, drop, get_or, Bool, true, false, not, Option, Some, None, bytes_eq, refl, sym, ap, ◌∙◌, subst}
use Rattle.std.proofs.lemmas.Slice.Eq.{bytes_eq-Decides}
use Rattle.std.specs.List.{list_any}
use Rattle.serde_json.specs.Data.{Data, boolean, object, Members, put}
use Rattle.serde_json.specs.Find.{get_member}
use Rattle.serde_json.proofs.Views.{get_member-put, get_member-put_other}
use Rattle.es_tree.specs.Words.{Text}
use Rattle.es_tree.specs.declared.table.Entry.{Entry}
use Rattle.es_tree.specs.declared.table.Content.{Content}
use Rattle.es_tree.specs.declared.table.Content.TheVariants.{
  Text as c-Text,
  OptionalText as c-OptionalText,
  Flag as c-Flag,
  RequiredFlag as c-RequiredFlag,
  Refused as c-Refused,
  Child as c-Child,
}
use Rattle.es_json.specs.Values.{field_of}
use Rattle.es_json.specs.Canonical.{rest, text_value, child_value, children_after, put_entry, put_entries}
use Rattle.std.proofs.lemmas.Bool.{both_ways, and_parts, or_parts, not-true}
use Rattle.es_json.proofs.TableFacts.{entry_name, all_distinct}

-- what is written for an entry, and what is left after it
abbrev pub written_value : Content → List (Option Text) → List Bool → List Data → Option Data
written_value (c-Text r) ts bs ds = Some (text_value (get_or ts 0 None))
written_value c-OptionalText ts bs ds = Some (text_value (get_or ts 0 None))
written_value c-Flag ts bs ds = Some (boolean (get_or bs 0 false))
written_value c-RequiredFlag ts bs ds = Some (boolean (get_or bs 0 false))
written_value c-Refused ts bs ds = None
written_value (c-Child s o) ts bs ds = Some (child_value o ds)

abbrev pub texts_left : Content → List (Option Text) → List (Option Text)
texts_left (c-Text r) ts = drop 1 ts
texts_left c-OptionalText ts = drop 1 ts
texts_left _ ts = ts

abbrev pub flags_left : Content → List Bool → List Bool
flags_left c-Flag bs = drop 1 bs
flags_left c-RequiredFlag bs = drop 1 bs
flags_left _ bs = bs

abbrev pub children_left : Content → List Data → List Data
children_left (c-Child s o) ds = children_after o ds
children_left _ ds = ds

-- texts that a test tells apart
pub differ : (xs ys : List ℕ) → bytes_eq xs ys ≡ false → xs ≡ ys → ⊥
differ xs ys h e = both_ways (bytes_eq xs ys) h ((bytes_eq-Decides xs ys).1 e)

-- the object has at each entry's field what is written for it
abbrev pub HasEntries : Data → List Entry → List (Option Text) → List Bool → List Data → Type 0
HasEntries v [] ts bs ds = Unit {0}
HasEntries v (e ∷ es) ts bs ds =
    (field_of e.field v ≡ written_value e.content ts bs ds)
    × HasEntries v es (texts_left e.content ts) (flags_left e.content bs) (children_left e.content ds)

abbrev put_option : Text → Option Data → Members → Members
put_option key None ms = ms
put_option key (Some d) ms = put key d ms

put_entry-rest : (key : Text) (k : Content) (ts : List (Option Text)) (bs : List Bool) (ds : List Data) (ms : Members)
    → put_entry key k (rest ts bs ds ms) ≡ rest (texts_left k ts) (flags_left k bs) (children_left k ds) (put_option key (written_value k ts bs ds) ms)
put_entry-rest key (c-Text r) [] bs ds ms = refl
put_entry-rest key (c-Text r) (t ∷ ts) bs ds ms = refl
put_entry-rest key c-OptionalText [] bs ds ms = refl
put_entry-rest key c-OptionalText (t ∷ ts) bs ds ms = refl
put_entry-rest key c-Flag ts [] ds ms = refl
put_entry-rest key c-Flag ts (b ∷ bs) ds ms = refl
put_entry-rest key c-RequiredFlag ts [] ds ms = refl
put_entry-rest key c-RequiredFlag ts (b ∷ bs) ds ms = refl
put_entry-rest key c-Refused ts bs ds ms = refl
put_entry-rest key (c-Child s o) ts bs ds ms = refl

get_member-put_option_other : (q k : Text) (o : Option Data) (ms : Members) → (q ≡ k → ⊥) → get_member q (put_option k o ms) ≡ get_member q ms
get_member-put_option_other q k None ms h = refl
get_member-put_option_other q k (Some d) ms h = get_member-put_other q k d ms h

get_member-put_option : (k : Text) (o : Option Data) (ms : Members) → get_member k ms ≡ None → get_member k (put_option k o ms) ≡ o
get_member-put_option k None ms h = h
get_member-put_option k (Some d) ms h = get_member-put k d ms

-- the other fields keep their values
pub get_member-put_entries : (q : Text) (es : List Entry) (ts : List (Option Text)) (bs : List Bool) (ds : List Data) (ms : Members)
    → list_any (bytes_eq q) (map entry_name es) ≡ false → get_member q (put_entries es (rest ts bs ds ms)).members ≡ get_member q ms
get_member-put_entries q [] ts bs ds ms h = refl
get_member-put_entries q (e ∷ es) ts bs ds ms h =
    ap (λ r. get_member q (put_entries es r).members) (put_entry-rest (entry_name e) e.content ts bs ds ms)
    ∙ get_member-put_entries q es _ _ _ _ (or_parts (bytes_eq q (entry_name e)) _ h).1
    ∙ get_member-put_option_other q (entry_name e) (written_value e.content ts bs ds) ms (differ q (entry_name e) (or_parts (bytes_eq q (entry_name e)) _ h).0)

-- no member stands at these names
abbrev pub AreUnwritten : List Text → Members → Type 0
AreUnwritten [] ms = Unit {0}
AreUnwritten (n ∷ ns) ms = (get_member n ms ≡ None) × AreUnwritten ns ms

unwritten-put_option : (k : Text) (o : Option Data) (ns : List Text) (ms : Members) → list_any (bytes_eq k) ns ≡ false → AreUnwritten ns ms → AreUnwritten ns (put_option k o ms)
unwritten-put_option k o [] ms h un = tt
unwritten-put_option k o (n ∷ ns) ms h un = (
  get_member-put_option_other n k o ms (λ e. differ k n (or_parts (bytes_eq k n) _ h).0 (sym e)) ∙ un.0,
  unwritten-put_option k o ns ms (or_parts (bytes_eq k n) _ h).1 un.1,
)

pub has_entries : (es : List Entry) (ts : List (Option Text)) (bs : List Bool) (ds : List Data) (ms : Members)
    → all_distinct (map entry_name es) ≡ true → AreUnwritten (map entry_name es) ms
    → HasEntries (object (put_entries es (rest ts bs ds ms)).members) es ts bs ds
has_entries [] ts bs ds ms apart un = tt
has_entries (e ∷ es) ts bs ds ms apart un =
    let name = entry_name e in
    let value = written_value e.content ts bs ds in
    let others : list_any (bytes_eq name) (map entry_name es) ≡ false = not-true _ (and_parts (not (list_any (bytes_eq name) (map entry_name es))) _ apart).0 in
    let step = put_entry-rest name e.content ts bs ds ms in
    let here : get_member name (put_entries es (put_entry name e.content (rest ts bs ds ms))).members ≡ value =
    ap (λ r. get_member name (put_entries es r).members) step
    ∙ get_member-put_entries name es _ _ _ _ others
    ∙ get_member-put_option name value ms un.0 in
    let later = has_entries es (texts_left e.content ts) (flags_left e.content bs) (children_left e.content ds) (put_option name value ms)
    (and_parts (not (list_any (bytes_eq name) (map entry_name es))) _ apart).1
    (unwritten-put_option name value (map entry_name es) ms others un.1) in
    (here, subst (λ r. HasEntries (object (put_entries es r).members) es (texts_left e.content ts) (flags_left e.content bs) (children_left e.content ds)) (sym step) later)
