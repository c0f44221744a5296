-- The first fault of a value, from where its reading stopped; and what a reading to the end has shown.
use Rattle.std.proofs.Common.{◌≡◌, ℕ, suc, ◌+◌, ◌<◌, ◌≤◌, ◌-◌, ◌&&◌, List, [], ◌∷◌, ◌++◌, length, get_or, take, drop, filter, Bool, true, false, Option, Some, None, is_some, refl, sym, ap, subst, ◌∙◌, add-one}
use Rattle.std.proofs.lemmas.List.{drop_more}
use Rattle.std.proofs.Math.ListN.{drop_of_length-le}
use Rattle.serde_json.specs.Data.{Data, null, boolean, number, string, array, object}
use Rattle.serde_json.specs.Find.{as_object}
use Rattle.serde_json.specs.View.{view, items_view}
use Rattle.serde_json.specs.declared.value.Value.{Value}
use Rattle.es_tree.specs.Table.{entries}
use Rattle.es_tree.specs.Tree.{Field}
use Rattle.es_tree.specs.Attributes.{is_refused}
use Rattle.es_tree.specs.declared.ast_type.AstType.{AstType}
use Rattle.es_tree.specs.declared.ast_type.AstType.TheVariants.{TemplateLiteral, TryStatement, MetaProperty}
use Rattle.es_tree.specs.declared.table.FieldName.{FieldName}
use Rattle.es_tree.specs.declared.table.FieldName.TheVariants.{«Type» as f-Type, Start as f-Start, End as f-End}
use Rattle.es_tree.specs.declared.table.Entry.{Entry}
use Rattle.es_tree.specs.declared.table.Sort.{Sort}
use Rattle.es_tree.specs.declared.table.Often.{Often}
use Rattle.es_tree.specs.declared.table.Content.{Content}
use Rattle.es_tree.specs.declared.table.Content.TheVariants.{
  Text as c-Text,
  OptionalText as c-OptionalText,
  Flag as c-Flag,
  RequiredFlag as c-RequiredFlag,
  Refused as c-Refused,
  Child as c-Child,
}
use Rattle.es_json.specs.declared.error.Step.{Step}
use Rattle.es_json.specs.declared.error.Step.TheVariants.{Field as s-Field, Index as s-Index}
use Rattle.es_json.specs.declared.error.ReadError.{ReadError}
use Rattle.es_json.specs.Values.{field_of, kind_here, IsOffset, NoneStands, sort_before, value_agrees}
use Rattle.es_json.specs.Form.{IsChild}
use Rattle.es_json.specs.Faults.{Inside, Path, here, under, content_holds, agrees_at, items_faults, child_faults, whole_child_faults, field_faults, fields_faults, span_faults, kind_faults, node_faults, faults, TellsFirst}
use Rattle.es_json.proofs.Entries.{entry}
use Rattle.es_json.proofs.Errors.{tells_same, tells_left, tells_right, tells_own}
use Rattle.es_json.proofs.Faults.{faults_are}
use Rattle.es_json.proofs.Items.{rest_of}
use Rattle.es_json.proofs.NoFaults.{no_faults, offset_none, field_none, child_sound, holds_absent}

-- ---- a node

no_object : (s : Sort) (v : Data) → is_some (as_object v) ≡ false → node_faults faults s v ≡ here false
no_object s null h = refl
no_object s (boolean x) h = refl
no_object s (number n) h = refl
no_object s (string x) h = refl
no_object s (array ds) h = refl
no_object s (object ms) h = absurd (cc h)

an_object : (s : Sort) (v : Data) → is_some (as_object v) ≡ true → node_faults faults s v ≡ kind_faults faults (kind_here s v) v
an_object s null h = absurd (cc h)
an_object s (boolean x) h = absurd (cc h)
an_object s (number n) h = absurd (cc h)
an_object s (string x) h = absurd (cc h)
an_object s (array ds) h = absurd (cc h)
an_object s (object ms) h = refl

module _ (e : ReadError) (s : Sort) (v : Data) where
  pub not_an_object : is_some (as_object v) ≡ false → TellsFirst e (here false) → TellsFirst e (faults s v)
  not_an_object h t = tells_same e (here false) (faults s v) (sym (faults_are s v ∙ no_object s v h)) t

  module _ (is : is_some (as_object v) ≡ true) (o : Option AstType) (kind : o ≡ kind_here s v) where
    of_kind : faults s v ≡ kind_faults faults o v
    of_kind = faults_are s v ∙ an_object s v is ∙ ap (λ p. kind_faults faults p v) (sym kind)

  pub no_kind : is_some (as_object v) ≡ true → None ≡ kind_here s v → TellsFirst e (under (s-Field f-Type) (here false)) → TellsFirst e (faults s v)
  no_kind is kind t = tells_same e _ (faults s v) (sym (of_kind is None kind)) t

  pub span_fails : (k : AstType) → is_some (as_object v) ≡ true → Some k ≡ kind_here s v → TellsFirst e (span_faults v) → TellsFirst e (faults s v)
  span_fails k is kind t = tells_same e _ (faults s v) (sym (of_kind is (Some k) kind)) (tells_left e (span_faults v) (fields_faults faults k v (entries k)) t)

  pub parts_fail : (k : AstType) (start stop : ℕ) → is_some (as_object v) ≡ true → Some k ≡ kind_here s v → IsOffset (field_of f-Start v) start → IsOffset (field_of f-End v) stop
      → TellsFirst e (fields_faults faults k v (entries k)) → TellsFirst e (faults s v)
  parts_fail k start stop is kind a b t =
      let none : span_faults v ≡ [] = rw (offset_none (field_of f-Start v) start a, offset_none (field_of f-End v) stop b) refl in
      tells_same e _ (faults s v) (sym (of_kind is (Some k) kind)) (tells_right e (span_faults v) (fields_faults faults k v (entries k)) none t)

-- ---- the fields of a node

and_false : (a b : Bool) → b ≡ false → (a && b) ≡ false
and_false true b h = h
and_false false b h = refl

false_and : (a b : Bool) → a ≡ false → (a && b) ≡ false
false_and true b h = absurd (cc h)
false_and false b h = refl

and_true : (a b : Bool) → b ≡ true → (a && b) ≡ a
and_true true b h = h
and_true false b h = refl

module _ (e : ReadError) (k : AstType) (v : Data) (x : Entry) where
  pub content_fails : TellsFirst e (under (s-Field x.field) (here (content_holds x.content (field_of x.field v)))) → TellsFirst e (field_faults faults k v x)
  content_fails t =
      tells_own e (s-Field x.field) (content_holds x.content (field_of x.field v)) _ _ (λ fails. false_and (content_holds x.content (field_of x.field v)) (agrees_at k x.field v) fails) t

  pub child_fails : (s : Sort) (often : Often) → x.content ≡ c-Child s often → agrees_at k x.field v ≡ true
      → TellsFirst e (under (s-Field x.field) (whole_child_faults faults v s often (field_of x.field v))) → TellsFirst e (field_faults faults k v x)
  child_fails s often is agrees t =
      let P : Content → Type 0 = λ c. TellsFirst e (field_faults faults k v (entry x.field c)) in
      let same : (content_holds (c-Child s often) (field_of x.field v) && agrees_at k x.field v) ≡ content_holds (c-Child s often) (field_of x.field v) = and_true _ _ agrees in
      subst P (sym is) (tells_same e _ (field_faults faults k v (entry x.field (c-Child s often))) (sym (ap (λ b. under (s-Field x.field) (here b ++ child_faults faults v s often (field_of x.field v))) same)) t)

module _ (k : AstType) (v : Data) (x : Entry) where
  pub refused_passes : x.content ≡ c-Refused → content_holds c-Refused (field_of x.field v) ≡ true → agrees_at k x.field v ≡ true → field_faults faults k v x ≡ []
  refused_passes is holds agrees =
      subst (λ (c : Content). field_faults faults k v (entry x.field c) ≡ []) (sym is) (field_none faults k v (entry x.field c-Refused) (holds, refl) agrees)

  pub child_passes : (s : Sort) (often : Often) (f : Field) → x.content ≡ c-Child s often → IsChild v (c-Child s often) (field_of x.field v) f → agrees_at k x.field v ≡ true
      → field_faults faults k v x ≡ []
  child_passes s often f is child agrees =
      subst (λ (c : Content). field_faults faults k v (entry x.field c) ≡ []) (sym is)
      (field_none faults k v (entry x.field (c-Child s often)) (child_sound faults no_faults v s often (field_of x.field v) f child) agrees)

module _ (k : AstType) (v : Data) (es : List Entry) (i : ℕ) (d : Entry) (h : i < length es) where
  entry_step : fields_faults faults k v (drop i es) ≡ field_faults faults k v (get_or es i d) ++ fields_faults faults k v (drop (i + 1) es)
  entry_step = ap (fields_faults faults k v) (drop_more es i d h)

  -- all entries so far have passed
  pub entry_passes : fields_faults faults k v es ≡ fields_faults faults k v (drop i es) → field_faults faults k v (get_or es i d) ≡ []
      → fields_faults faults k v es ≡ fields_faults faults k v (drop (i + 1) es)
  entry_passes before here = before ∙ entry_step ∙ ap (λ (ps : List Path). ps ++ fields_faults faults k v (drop (i + 1) es)) here

  pub entry_fails : (e : ReadError) (all : List Entry) → es ≡ all → fields_faults faults k v es ≡ fields_faults faults k v (drop i es)
      → TellsFirst e (field_faults faults k v (get_or es i d)) → TellsFirst e (fields_faults faults k v all)
  entry_fails e all same before t =
      tells_same e _ (fields_faults faults k v all) (sym entry_step ∙ sym before ∙ ap (fields_faults faults k v) same)
      (tells_left e (field_faults faults k v (get_or es i d)) (fields_faults faults k v (drop (i + 1) es)) t)

pub entries_pass : (k : AstType) (v : Data) (es all : List Entry) (i : ℕ) → es ≡ all → length es ≤ i → fields_faults faults k v es ≡ fields_faults faults k v (drop i es) → fields_faults faults k v all ≡ []
entries_pass k v es all i same h before =
    ap (fields_faults faults k v) (sym same) ∙ before ∙ ap (fields_faults faults k v) (drop_of_length-le es h)

-- ---- what all fields have shown

left_none : (ps qs : List Path) → ps ++ qs ≡ [] → ps ≡ []
left_none [] qs h = refl
left_none (p ∷ ps) qs h = absurd (cc h)

right_none : (ps qs : List Path) → ps ++ qs ≡ [] → qs ≡ []
right_none [] qs h = h
right_none (p ∷ ps) qs h = absurd (cc h)

under_none : (s : Step) (ps : List Path) → under s ps ≡ [] → ps ≡ []
under_none s [] h = refl
under_none s (p ∷ ps) h = absurd (cc h)

here_none : (b : Bool) → here b ≡ [] → b ≡ true
here_none true h = refl
here_none false h = absurd (cc h)

both_hold : (a b : Bool) → (a && b) ≡ true → (a ≡ true) × (b ≡ true)
both_hold true b h = (refl, h)
both_hold false b h = absurd (cc h)

module _ (k : AstType) (v : Data) where
  holds_by_itself : (x : Entry) → field_faults faults k v x ≡ [] → (content_holds x.content (field_of x.field v) ≡ true) × (agrees_at k x.field v ≡ true)
  holds_by_itself x h = both_hold _ _ (here_none _ (left_none _ _ (under_none (s-Field x.field) _ h)))

  one_refused : (f : FieldName) (c : Content) (es : List Entry) → field_faults faults k v (entry f c) ≡ [] → NoneStands (filter is_refused es) v → NoneStands (filter is_refused (entry f c ∷ es)) v
  one_refused f (c-Text r) es h later = later
  one_refused f c-OptionalText es h later = later
  one_refused f c-Flag es h later = later
  one_refused f c-RequiredFlag es h later = later
  one_refused f c-Refused es h later = (holds_absent (field_of f v) (holds_by_itself (entry f c-Refused) h).0, later)
  one_refused f (c-Child s often) es h later = later

  pub none_refused : (es : List Entry) → fields_faults faults k v es ≡ [] → NoneStands (filter is_refused es) v
  none_refused [] h = tt
  none_refused (x ∷ es) h = one_refused x.field x.content es (left_none _ _ h) (none_refused es (right_none (field_faults faults k v x) _ h))

  AllAgree : List Entry → Type 0
  AllAgree [] = Unit {0}
  AllAgree (x ∷ es) = (agrees_at k x.field v ≡ true) × AllAgree es

  all_agree : (es : List Entry) → fields_faults faults k v es ≡ [] → AllAgree es
  unfolding AllAgree
  all_agree [] h = tt
  all_agree (x ∷ es) h = ((holds_by_itself x (left_none _ _ h)).1, all_agree es (right_none (field_faults faults k v x) _ h))

pub agreed : (k : AstType) (v : Data) → fields_faults faults k v (entries k) ≡ [] → value_agrees k v ≡ true
unfolding AllAgree
agreed TemplateLiteral v h = (all_agree TemplateLiteral v (entries TemplateLiteral) h).0
agreed TryStatement v h = let later = (all_agree TryStatement v (entries TryStatement) h).1 in later.0
agreed MetaProperty v h = let later = (all_agree MetaProperty v (entries MetaProperty) h).1 in later.0
agreed _ v h = refl

-- ---- a list

module _ (inside : Inside) (s last : Sort) (vs : List Value) (i : ℕ) (x : Value) (place : Sort) (h : i < length vs) (is : x ≡ get_or vs i x) (sort : place ≡ sort_before s last (items_view (take (length vs - (i + 1)) (drop (i + 1) vs)))) where
  item_step : items_faults inside s last i (items_view (drop i vs)) ≡ under (s-Index i) (inside place (view x)) ++ items_faults inside s last (i + 1) (items_view (drop (i + 1) vs))
  item_step =
      let F : Sort → Value → ℕ → List Path = λ r y j. under (s-Index i) (inside r (view y)) ++ items_faults inside s last j (items_view (drop (i + 1) vs)) in
      ap (λ (l : List Value). items_faults inside s last i (items_view l)) (drop_more vs i x h)
      ∙ ap (λ r. F r (get_or vs i x) (suc i)) (sym (sort ∙ ap (λ (l : List Value). sort_before s last (items_view l)) (rest_of vs (i + 1))))
      ∙ ap (λ y. F place y (suc i)) (sym is)
      ∙ ap (F place x) (sym (add-one i))

  pub item_passes : items_faults inside s last 0 (items_view vs) ≡ items_faults inside s last i (items_view (drop i vs)) → inside place (view x) ≡ []
      → items_faults inside s last 0 (items_view vs) ≡ items_faults inside s last (i + 1) (items_view (drop (i + 1) vs))
  item_passes before none = before ∙ item_step ∙ ap (λ ps. under (s-Index i) ps ++ items_faults inside s last (i + 1) (items_view (drop (i + 1) vs))) none
