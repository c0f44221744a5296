-- Lists of entries beside what was read for them.
use Rattle.std.proofs.Common.{◌≡◌, ℕ, suc, ◌+◌, ◌<◌, ◌≤◌, List, [], ◌∷◌, ◌++◌, length, get_or, take, filter, map, Bool, true, Option, Some, None, Vec, Global, refl, sym, ap, ◌∙◌, subst}
use Rattle.std.proofs.lemmas.List.{take_more, append-nil, map_push, take_all}
use Rattle.std.proofs.lemmas.List.Elements.{filter-append}
use Rattle.serde_json.specs.Data.{Data, null, boolean, number, string, array, object}
use Rattle.std.specs.Borrow.{Bor}
use Rattle.es_tree.specs.Words.{Text}
use Rattle.es_tree.specs.Texts.{plain_text, plain_texts}
use Rattle.es_tree.specs.Views.{plain_field}
use Rattle.es_tree.specs.declared.node.Field.{Field as NodeField}
use Rattle.es_tree.specs.Tree.{Fields, Field, fields}
use Rattle.es_tree.specs.Attributes.{is_text, is_flag, is_child, text_fits, texts_fit}
use Rattle.es_tree.specs.declared.table.FieldName.{FieldName}
use Rattle.es_tree.specs.declared.table.Entry.{Entry}
use Rattle.es_tree.specs.declared.table.Sort.{Sort}
use Rattle.es_tree.specs.declared.table.Often.{Often}
use Rattle.es_tree.specs.declared.table.Content.{Content}
use Rattle.es_tree.specs.declared.table.Content.TheVariants.{
  Text as c-Text,
  OptionalText as c-OptionalText,
  Flag as c-Flag,
  RequiredFlag as c-RequiredFlag,
  Refused as c-Refused,
  Child as c-Child,
}
use Rattle.es_json.specs.Values.{field_of, TextIs, FlagIs, TextsAre, FlagsAre}
use Rattle.es_json.specs.Form.{AreFields, IsChild}

abbrev pub entry : FieldName → Content → Entry
entry f k = record { field = f; content = k }

filter_more : (p : Entry → Bool) (es : List Entry) (i : ℕ) (d : Entry) → i < length es
    → filter p (take (i + 1) es) ≡ filter p (take i es) ++ filter p (get_or es i d ∷ [])
filter_more p es i d h = ap (filter p) (take_more es i d h) ∙ filter-append p (take i es) (get_or es i d ∷ [])

-- ---- texts

texts_append : (a b : List Entry) (v : Data) (ts us : List (Option Text)) → TextsAre a v ts → TextsAre b v us → TextsAre (a ++ b) v (ts ++ us)
texts_append [] b v [] us h k = k
texts_append [] b v (t ∷ ts) us h k = absurd h
texts_append (e ∷ a) b v [] us h k = absurd h
texts_append (e ∷ a) b v (t ∷ ts) us h k = (h.0, texts_append a b v ts us h.1 k)

texts_more : (es : List Entry) (i : ℕ) (d : Entry) (v : Data) (ts us : List (Option Text)) → i < length es → TextsAre (filter is_text (take i es)) v ts
    → TextsAre (filter is_text (get_or es i d ∷ [])) v us → TextsAre (filter is_text (take (i + 1) es)) v (ts ++ us)
texts_more es i d v ts us h before here =
    let P : List Entry → Type 0 = λ l. TextsAre l v (ts ++ us) in
    subst P (sym (filter_more is_text es i d h)) (texts_append (filter is_text (take i es)) _ v ts us before here)

-- ---- truth values

flags_append : (a b : List Entry) (v : Data) (ts us : List Bool) → FlagsAre a v ts → FlagsAre b v us → FlagsAre (a ++ b) v (ts ++ us)
flags_append [] b v [] us h k = k
flags_append [] b v (t ∷ ts) us h k = absurd h
flags_append (e ∷ a) b v [] us h k = absurd h
flags_append (e ∷ a) b v (t ∷ ts) us h k = (h.0, flags_append a b v ts us h.1 k)

flags_more : (es : List Entry) (i : ℕ) (d : Entry) (v : Data) (ts us : List Bool) → i < length es → FlagsAre (filter is_flag (take i es)) v ts
    → FlagsAre (filter is_flag (get_or es i d ∷ [])) v us → FlagsAre (filter is_flag (take (i + 1) es)) v (ts ++ us)
flags_more es i d v ts us h before here =
    let P : List Entry → Type 0 = λ l. FlagsAre l v (ts ++ us) in
    subst P (sym (filter_more is_flag es i d h)) (flags_append (filter is_flag (take i es)) _ v ts us before here)

-- ---- children

fields_append : (a b : List Entry) (v : Data) (fs gs : List Field) → AreFields v a (fields fs) → AreFields v b (fields gs) → AreFields v (a ++ b) (fields (fs ++ gs))
fields_append [] b v [] gs h k = k
fields_append [] b v (f ∷ fs) gs h k = absurd h
fields_append (e ∷ a) b v [] gs h k = absurd h
fields_append (e ∷ a) b v (f ∷ fs) gs h k = (h.0, fields_append a b v fs gs h.1 k)

fields_more : (es : List Entry) (i : ℕ) (d : Entry) (v : Data) (fs gs : List Field) → i < length es → AreFields v (filter is_child (take i es)) (fields fs)
    → AreFields v (filter is_child (get_or es i d ∷ [])) (fields gs) → AreFields v (filter is_child (take (i + 1) es)) (fields (fs ++ gs))
fields_more es i d v fs gs h before here =
    let P : List Entry → Type 0 = λ l. AreFields v l (fields (fs ++ gs)) in
    subst P (sym (filter_more is_child es i d h)) (fields_append (filter is_child (take i es)) _ v fs gs before here)

-- ---- all that is read of some entries

pub record AreRead (v : Data) (es : List Entry) (ts : List (Option Text)) (bs : List Bool) (fs : List Field) : Type 0 where
  pub texts : TextsAre (filter is_text es) v ts
  pub flags : FlagsAre (filter is_flag es) v bs
  pub children : AreFields v (filter is_child es) (fields fs)

module _ (es : List Entry) (i : ℕ) (d : Entry) (v : Data) (h : i < length es) where
  more : (ts us : List (Option Text)) (bs cs : List Bool) (fs gs : List Field) → AreRead v (take i es) ts bs fs → AreRead v (get_or es i d ∷ []) us cs gs
      → AreRead v (take (i + 1) es) (ts ++ us) (bs ++ cs) (fs ++ gs)
  more ts us bs cs fs gs before here = record {
    texts = texts_more es i d v ts us h before.texts here.texts;
    flags = flags_more es i d v bs cs h before.flags here.flags;
    children = fields_more es i d v fs gs h before.children here.children;
  }

one_text : (f : FieldName) (k : Content) (v : Data) (t : Option Text) → TextIs k (field_of f v) t → AreRead v (entry f k ∷ []) (t ∷ []) [] []
one_text f (c-Text r) v t h = record { texts = (h, tt); flags = tt; children = tt }
one_text f c-OptionalText v t h = record { texts = (h, tt); flags = tt; children = tt }
one_text f c-Flag v t h = absurd h
one_text f c-RequiredFlag v t h = absurd h
one_text f c-Refused v t h = absurd h
one_text f (c-Child s o) v t h = absurd h

one_flag : (f : FieldName) (k : Content) (v : Data) (b : Bool) → FlagIs k (field_of f v) b → AreRead v (entry f k ∷ []) [] (b ∷ []) []
one_flag f (c-Text r) v t h = absurd h
one_flag f c-OptionalText v t h = absurd h
one_flag f c-Flag v t h = record { texts = tt; flags = (h, tt); children = tt }
one_flag f c-RequiredFlag v t h = record { texts = tt; flags = (h, tt); children = tt }
one_flag f c-Refused v t h = absurd h
one_flag f (c-Child s o) v t h = absurd h

one_child : (f : FieldName) (s : Sort) (o : Often) (v : Data) (x : Field) → IsChild v (c-Child s o) (field_of f v) x → AreRead v (entry f (c-Child s o) ∷ []) [] [] (x ∷ [])
one_child f s o v x h = record { texts = tt; flags = tt; children = (h, tt) }

as_read : {v : Data} {es : List Entry} {ts : List (Option Text)} {bs : List Bool} {fs : List Field} (us : List (Option Text)) (cs : List Bool) (gs : List Field)
    → us ≡ ts → cs ≡ bs → gs ≡ fs → AreRead v es ts bs fs → AreRead v es us cs gs
as_read {v} {es} {ts} {bs} {fs} us cs gs e p q r = record {
  texts = subst (λ x. TextsAre (filter is_text es) v x) (sym e) r.texts;
  flags = subst (λ x. FlagsAre (filter is_flag es) v x) (sym p) r.flags;
  children = subst (λ x. AreFields v (filter is_child es) (fields x)) (sym q) r.children;
}

module _ (es : List Entry) (i : ℕ) (d : Entry) (v : Data) (h : i < length es) where
  pub one_more_text : (ts us : List (Option Text)) (bs cs : List Bool) (fs gs : List Field) (t : Option Text) → us ≡ ts ++ t ∷ [] → cs ≡ bs → gs ≡ fs → AreRead v (take i es) ts bs fs
      → TextIs (get_or es i d).content (field_of (get_or es i d).field v) t → AreRead v (take (i + 1) es) us cs gs
  one_more_text ts us bs cs fs gs t e p q before is =
      let r = more es i d v h ts (t ∷ []) bs [] fs [] before (one_text _ (get_or es i d).content v t is) in
      as_read us cs gs e (p ∙ sym (append-nil bs)) (q ∙ sym (append-nil fs)) r

  pub one_more_flag : (ts us : List (Option Text)) (bs cs : List Bool) (fs gs : List Field) (b : Bool) → us ≡ ts → cs ≡ bs ++ b ∷ [] → gs ≡ fs → AreRead v (take i es) ts bs fs
      → FlagIs (get_or es i d).content (field_of (get_or es i d).field v) b → AreRead v (take (i + 1) es) us cs gs
  one_more_flag ts us bs cs fs gs b e p q before is =
      let r = more es i d v h ts [] bs (b ∷ []) fs [] before (one_flag _ (get_or es i d).content v b is) in
      as_read us cs gs (e ∙ sym (append-nil ts)) p (q ∙ sym (append-nil fs)) r

  pub one_more_refused : (ts us : List (Option Text)) (bs cs : List Bool) (fs gs : List Field) → us ≡ ts → cs ≡ bs → gs ≡ fs → AreRead v (take i es) ts bs fs
      → (get_or es i d).content ≡ c-Refused → AreRead v (take (i + 1) es) us cs gs
  one_more_refused ts us bs cs fs gs e p q before is =
      let P : Content → Type 0 = λ k. AreRead v (entry (get_or es i d).field k ∷ []) [] [] [] in
      let here : AreRead v (get_or es i d ∷ []) [] [] [] = subst P (sym is) (record { texts = tt; flags = tt; children = tt }) in
      let r = more es i d v h ts [] bs [] fs [] before here in
      as_read us cs gs (e ∙ sym (append-nil ts)) (p ∙ sym (append-nil bs)) (q ∙ sym (append-nil fs)) r

  pub one_more_child : (ts us : List (Option Text)) (bs cs : List Bool) (fs gs : List Field) (s : Sort) (o : Often) (f : Field) → us ≡ ts → cs ≡ bs → gs ≡ fs ++ f ∷ [] → AreRead v (take i es) ts bs fs
      → (get_or es i d).content ≡ c-Child s o → IsChild v (c-Child s o) (field_of (get_or es i d).field v) f → AreRead v (take (i + 1) es) us cs gs
  one_more_child ts us bs cs fs gs s o f e p q before is child =
      let P : Content → Type 0 = λ k. AreRead v (entry (get_or es i d).field k ∷ []) [] [] (f ∷ []) in
      let here : AreRead v (get_or es i d ∷ []) [] [] (f ∷ []) = subst P (sym is) (one_child _ s o v f child) in
      let r = more es i d v h ts [] bs [] fs (f ∷ []) before here in
      as_read us cs gs (e ∙ sym (append-nil ts)) (p ∙ sym (append-nil bs)) q r

pub texts_pushed : (ts : List (Option (Bor (List ℕ)))) (us ws : Vec (Option (Bor (List ℕ))) Global) (t : Option (Bor (List ℕ))) → ws ≡ us → us.items ≡ ts ++ t ∷ []
    → plain_texts ws.items ≡ plain_texts ts ++ plain_text t ∷ []
texts_pushed ts us ws t same e = ap (λ v. plain_texts v.items) same ∙ ap plain_texts e ∙ map_push plain_text ts t

pub flags_pushed : (bs : List Bool) (cs ds : Vec Bool Global) (b : Bool) → ds ≡ cs → cs.items ≡ bs ++ b ∷ [] → ds.items ≡ bs ++ b ∷ []
flags_pushed bs cs ds b same e = ap (λ v. v.items) same ∙ e

pub fields_pushed : (fs : List NodeField) (gs hs : Vec NodeField Global) (f : NodeField) → hs ≡ gs → gs.items ≡ fs ++ f ∷ []
    → map plain_field hs.items ≡ map plain_field fs ++ plain_field f ∷ []
fields_pushed fs gs hs f same e = ap (λ v. map plain_field v.items) same ∙ ap (map plain_field) e ∙ map_push plain_field fs f

-- ---- what a kind is made of

text_fits-given : (k : Content) (d : Option Data) (t : Option Text) → TextIs k d t → text_fits k t ≡ true
text_fits-given (c-Text r) None t h = absurd h
text_fits-given (c-Text r) (Some null) t h = absurd h
text_fits-given (c-Text r) (Some (boolean b)) t h = absurd h
text_fits-given (c-Text r) (Some (number n)) t h = absurd h
text_fits-given (c-Text r) (Some (string s)) None h = absurd h
text_fits-given (c-Text r) (Some (string s)) (Some t) h = h.1
text_fits-given (c-Text r) (Some (array ds)) t h = absurd h
text_fits-given (c-Text r) (Some (object ms)) t h = absurd h
text_fits-given c-OptionalText d t h = refl
text_fits-given c-Flag d t h = absurd h
text_fits-given c-RequiredFlag d t h = absurd h
text_fits-given c-Refused d t h = absurd h
text_fits-given (c-Child s o) d t h = absurd h

pub texts_fit-given : (es : List Entry) (v : Data) (ts : List (Option Text)) → TextsAre es v ts → texts_fit es ts ≡ true
texts_fit-given [] v [] h = refl
texts_fit-given [] v (t ∷ ts) h = absurd h
texts_fit-given (e ∷ es) v [] h = absurd h
texts_fit-given (e ∷ es) v (t ∷ ts) h = rw (text_fits-given e.content (field_of e.field v) t h.0) (texts_fit-given es v ts h.1)

pub length-flags : (es : List Entry) (v : Data) (bs : List Bool) → FlagsAre es v bs → length bs ≡ length es
length-flags [] v [] h = refl
length-flags [] v (b ∷ bs) h = absurd h
length-flags (e ∷ es) v [] h = absurd h
length-flags (e ∷ es) v (b ∷ bs) h = ap suc (length-flags es v bs h.1)

-- ---- all entries have been read

module _ (es all : List Entry) (i : ℕ) (v : Data) where
  pub all_texts : (ts : List (Option Text)) → es ≡ all → length es ≤ i → TextsAre (filter is_text (take i es)) v ts → TextsAre (filter is_text all) v ts
  all_texts ts is h are = subst (λ l. TextsAre (filter is_text l) v ts) (take_all i es h ∙ is) are

  pub all_flags : (bs : List Bool) → es ≡ all → length es ≤ i → FlagsAre (filter is_flag (take i es)) v bs → FlagsAre (filter is_flag all) v bs
  all_flags bs is h are = subst (λ l. FlagsAre (filter is_flag l) v bs) (take_all i es h ∙ is) are

  pub all_fields : (fs : Fields) → es ≡ all → length es ≤ i → AreFields v (filter is_child (take i es)) fs → AreFields v (filter is_child all) fs
  all_fields fs is h are = subst (λ l. AreFields v (filter is_child l) fs) (take_all i es h ∙ is) are
