-- One more line of the table, beside what is left to write.
use Rattle.std.proofs.Common.{◌≡◌, ◌<◌, ℕ, zero, suc, ◌+◌, ◌⊎◌, inl, inr, List, [], ◌∷◌, Bool, false, Option, None, drop, get_or, length, refl, sym, ap, ◌∙◌, add-one}
use Rattle.std.proofs.Math.Seq.{drop-cons}
use Rattle.serde_json.specs.Data.{Data, boolean, Members, put}
use Rattle.es_tree.specs.Words.{Text}
use Rattle.es_tree.specs.Table.{field_text}
use Rattle.es_tree.specs.declared.table.Entry.{Entry}
use Rattle.es_tree.specs.declared.table.Sort.{Sort}
use Rattle.es_tree.specs.declared.table.Often.{Often}
use Rattle.es_tree.specs.declared.table.TextRule.{TextRule}
use Rattle.es_tree.specs.declared.table.Content.{Content}
use Rattle.es_tree.specs.declared.table.Content.TheVariants.{
  Text as c-Text,
  OptionalText as c-OptionalText,
  Flag as c-Flag,
  RequiredFlag as c-RequiredFlag,
  Child as c-Child,
}
use Rattle.es_json.specs.Canonical.{Rest, rest, text_value, child_value, children_after, put_text, put_flag, put_entry, put_entries}

-- the entries from i on, after what one of them adds
pub put_entries-drop : (es : List Entry) (i : ℕ) (d : Entry) (r : Rest) → i < length es
    → put_entries (drop i es) r ≡ put_entries (drop (i + 1) es) (put_entry (field_text (get_or es i d).field) (get_or es i d).content r)
put_entries-drop es i d r h = rw (drop-cons es i d h, add-one i) refl

put_text-drop-suc : (key : Text) (i : ℕ) (ts : List (Option Text)) (bs : List Bool) (ds : List Data) (ms : Members)
    → put_text key (rest (drop i ts) bs ds ms) (drop i ts) ≡ rest (drop (suc i) ts) bs ds (put key (text_value (get_or ts i None)) ms)
put_text-drop-suc key zero [] bs ds ms = refl
put_text-drop-suc key (suc i) [] bs ds ms = refl
put_text-drop-suc key zero (t ∷ ts) bs ds ms = refl
put_text-drop-suc key (suc i) (t ∷ ts) bs ds ms = put_text-drop-suc key i ts bs ds ms

put_flag-drop-suc : (key : Text) (i : ℕ) (ts : List (Option Text)) (bs : List Bool) (ds : List Data) (ms : Members)
    → put_flag key (rest ts (drop i bs) ds ms) (drop i bs) ≡ rest ts (drop (suc i) bs) ds (put key (boolean (get_or bs i false)) ms)
put_flag-drop-suc key zero ts [] ds ms = refl
put_flag-drop-suc key (suc i) ts [] ds ms = refl
put_flag-drop-suc key zero ts (b ∷ bs) ds ms = refl
put_flag-drop-suc key (suc i) ts (b ∷ bs) ds ms = put_flag-drop-suc key i ts bs ds ms

-- an entry for a text, and one for a truth value
abbrev pub HoldsText : Content → Type 0
HoldsText k = ((r : TextRule) × (k ≡ c-Text r)) ⊎ (k ≡ c-OptionalText)

abbrev pub HoldsFlag : Content → Type 0
HoldsFlag k = (k ≡ c-Flag) ⊎ (k ≡ c-RequiredFlag)

put_entry-text : (k : Content) (key : Text) (r : Rest) → HoldsText k → put_entry key k r ≡ put_text key r r.texts
put_entry-text k key r (inl h) = rw h.1 refl
put_entry-text k key r (inr h) = rw h refl

put_entry-flag : (k : Content) (key : Text) (r : Rest) → HoldsFlag k → put_entry key k r ≡ put_flag key r r.flags
put_entry-flag k key r (inl h) = rw h refl
put_entry-flag k key r (inr h) = rw h refl

pub text_entry : (es : List Entry) (i : ℕ) (e : Entry) (n : ℕ) (ts : List (Option Text)) (bs : List Bool) (ds : List Data) (ms : Members) (key : Text) (v : Data)
    → i < length es → HoldsText (get_or es i e).content → key ≡ field_text (get_or es i e).field → v ≡ text_value (get_or ts n None)
    → put_entries (drop (i + 1) es) (rest (drop (n + 1) ts) bs ds (put key v ms)) ≡ put_entries (drop i es) (rest (drop n ts) bs ds ms)
text_entry es i e n ts bs ds ms key v within h named is =
    rw (named, is, add-one n) (ap (put_entries (drop (i + 1) es))
    (sym (put_text-drop-suc (field_text (get_or es i e).field) n ts bs ds ms) ∙ sym (put_entry-text (get_or es i e).content _ _ h))
    ∙ sym (put_entries-drop es i e _ within))

pub flag_entry : (es : List Entry) (i : ℕ) (e : Entry) (n : ℕ) (ts : List (Option Text)) (bs : List Bool) (ds : List Data) (ms : Members) (key : Text) (v : Data)
    → i < length es → HoldsFlag (get_or es i e).content → key ≡ field_text (get_or es i e).field → v ≡ boolean (get_or bs n false)
    → put_entries (drop (i + 1) es) (rest ts (drop (n + 1) bs) ds (put key v ms)) ≡ put_entries (drop i es) (rest ts (drop n bs) ds ms)
flag_entry es i e n ts bs ds ms key v within h named is =
    rw (named, is, add-one n) (ap (put_entries (drop (i + 1) es))
    (sym (put_flag-drop-suc (field_text (get_or es i e).field) n ts bs ds ms) ∙ sym (put_entry-flag (get_or es i e).content _ _ h))
    ∙ sym (put_entries-drop es i e _ within))

pub child_entry : (es : List Entry) (i : ℕ) (e : Entry) (s : Sort) (o : Often) (ts : List (Option Text)) (bs : List Bool) (ds left : List Data) (ms : Members) (key : Text) (v : Data)
    → i < length es → (get_or es i e).content ≡ c-Child s o → key ≡ field_text (get_or es i e).field → v ≡ child_value o ds → left ≡ children_after o ds
    → put_entries (drop (i + 1) es) (rest ts bs left (put key v ms)) ≡ put_entries (drop i es) (rest ts bs ds ms)
child_entry es i e s o ts bs ds left ms key v within h named is after =
    rw (put_entries-drop es i e (rest ts bs ds ms) within, h, named, is, after) refl
