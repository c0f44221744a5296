-- All trees that a value is a form of are the same but for ids and marks.
use Rattle.std.proofs.Common.{◌≡◌, ℕ, refl, sym, ap, subst, List, [], ◌∷◌, Option, Some, None}
use Rattle.std.specs.Prelude.{Bool, true, MatchOption}
use Rattle.serde_json.specs.Data.{Data, null, boolean, number, string, array, object, Items, no_items, item}
use Rattle.es_tree.specs.Words.{Text}
use Rattle.es_tree.specs.Bare.{bare, bare_label, bare_fields, bare_field, bare_trees}
use Rattle.es_tree.specs.Attributes.{text_entries, flag_entries, refused_entries, child_entries}
use Rattle.es_tree.specs.Tree.{Tree, node, Label, Fields, done, ◌then◌, Field, missing, one, many, statements, Trees, empty, ◌before◌}
use Rattle.es_tree.specs.declared.ast_type.AstType.{AstType}
use Rattle.es_tree.specs.declared.table.FieldName.TheVariants.{Start as f-Start, End as f-End}
use Rattle.es_tree.specs.declared.table.Entry.{Entry}
use Rattle.es_tree.specs.declared.table.Sort.{Sort}
use Rattle.es_tree.specs.declared.table.Often.TheVariants.{Required, Optional, List as a-List, NonEmptyList, ListWithRest, Statements, Elements, ElementsWithRest}
use Rattle.es_tree.specs.declared.table.Content.{Content}
use Rattle.es_tree.specs.declared.table.Content.TheVariants.{
  Text as c-Text,
  OptionalText as c-OptionalText,
  Flag as c-Flag,
  RequiredFlag as c-RequiredFlag,
  Refused as c-Refused,
  Child as c-Child,
}
use Rattle.es_tree.specs.Table.{rest_sort}
use Rattle.es_json.specs.Values.{field_of, kind_here, IsOffset, NoneStands, TextIs, TextsAre, FlagIs, FlagsAre, sort_in, list_of, sort_before, value_agrees}
use Rattle.es_json.specs.Form.{ElementsPlace, elements_of, IsForm, AreElements, IsElement, AreFields, IsChild, AreItems}

offset_same : (o : Option Data) (a b : ℕ) → IsOffset o a → IsOffset o b → a ≡ b
offset_same None a b h k = cc
offset_same (Some v) a b h k = cc

text_same : (c : Content) (o : Option Data) (t u : Option Text) → TextIs c o t → TextIs c o u → t ≡ u
text_same (c-Text r) (Some (string s)) (Some t) (Some u) h k = cc
text_same c-OptionalText None None None h k = refl
text_same c-OptionalText (Some null) None None h k = refl
text_same c-OptionalText (Some (string s)) (Some t) (Some u) h k = cc
text_same (c-Text r) None t u h k = absurd h
text_same (c-Text r) (Some null) t u h k = absurd h
text_same (c-Text r) (Some (boolean b)) t u h k = absurd h
text_same (c-Text r) (Some (number n)) t u h k = absurd h
text_same (c-Text r) (Some (array n)) t u h k = absurd h
text_same (c-Text r) (Some (object n)) t u h k = absurd h
text_same (c-Text r) (Some (string s)) None u h k = absurd h
text_same (c-Text r) (Some (string s)) (Some t) None h k = absurd k
text_same c-OptionalText None (Some t) u h k = absurd h
text_same c-OptionalText None None (Some u) h k = absurd k
text_same c-OptionalText (Some null) (Some t) u h k = absurd h
text_same c-OptionalText (Some null) None (Some u) h k = absurd k
text_same c-OptionalText (Some (string s)) None u h k = absurd h
text_same c-OptionalText (Some (string s)) (Some t) None h k = absurd k
text_same c-OptionalText (Some (boolean b)) t u h k = absurd h
text_same c-OptionalText (Some (number n)) t u h k = absurd h
text_same c-OptionalText (Some (array n)) t u h k = absurd h
text_same c-OptionalText (Some (object n)) t u h k = absurd h
text_same c-Flag o t u h k = absurd h
text_same c-RequiredFlag o t u h k = absurd h
text_same c-Refused o t u h k = absurd h
text_same (c-Child s n) o t u h k = absurd h

texts_same : (es : List Entry) (v : Data) (ts us : List (Option Text)) → TextsAre es v ts → TextsAre es v us → ts ≡ us
texts_same [] v [] [] h k = refl
texts_same [] v (t ∷ ts) us h k = absurd h
texts_same [] v [] (u ∷ us) h k = absurd k
texts_same (e ∷ es) v [] us h k = absurd h
texts_same (e ∷ es) v (t ∷ ts) [] h k = absurd k
texts_same (e ∷ es) v (t ∷ ts) (u ∷ us) h k = λ i. text_same e.content (field_of e.field v) t u h.0 k.0 i ∷ texts_same es v ts us h.1 k.1 i

flag_same : (c : Content) (o : Option Data) (a b : Bool) → FlagIs c o a → FlagIs c o b → a ≡ b
flag_same c-Flag None a b h k = cc
flag_same c-Flag (Some (boolean x)) a b h k = cc
flag_same c-RequiredFlag (Some (boolean x)) a b h k = cc
flag_same c-RequiredFlag None a b h k = absurd h
flag_same c-Flag (Some null) a b h k = absurd h
flag_same c-Flag (Some (number n)) a b h k = absurd h
flag_same c-Flag (Some (string n)) a b h k = absurd h
flag_same c-Flag (Some (array n)) a b h k = absurd h
flag_same c-Flag (Some (object n)) a b h k = absurd h
flag_same c-RequiredFlag (Some null) a b h k = absurd h
flag_same c-RequiredFlag (Some (number n)) a b h k = absurd h
flag_same c-RequiredFlag (Some (string n)) a b h k = absurd h
flag_same c-RequiredFlag (Some (array n)) a b h k = absurd h
flag_same c-RequiredFlag (Some (object n)) a b h k = absurd h
flag_same (c-Text r) o a b h k = absurd h
flag_same c-OptionalText o a b h k = absurd h
flag_same c-Refused o a b h k = absurd h
flag_same (c-Child s n) o a b h k = absurd h

flags_same : (es : List Entry) (v : Data) (cs bs : List Bool) → FlagsAre es v cs → FlagsAre es v bs → cs ≡ bs
flags_same [] v [] [] h k = refl
flags_same [] v (a ∷ cs) bs h k = absurd h
flags_same [] v [] (b ∷ bs) h k = absurd k
flags_same (e ∷ es) v [] bs h k = absurd h
flags_same (e ∷ es) v (a ∷ cs) [] h k = absurd k
flags_same (e ∷ es) v (a ∷ cs) (b ∷ bs) h k = λ i. flag_same e.content (field_of e.field v) a b h.0 k.0 i ∷ flags_same es v cs bs h.1 k.1 i

null_no_form : (s : Sort) (d : Data) (t : Tree) → d ≡ null → IsForm s d t → ⊥
null_no_form s d (node k l fs) e h =
    let named : kind_here s null ≡ Some k = rw e at h.0 in
    cc named

abbrev FormOf : Data → AstType → Label → Fields → Type 0
FormOf v k l fs =
    IsOffset (field_of f-Start v) l.start
    × IsOffset (field_of f-End v) l.stop
    × NoneStands (refused_entries k) v
    × TextsAre (text_entries k) v l.texts
    × FlagsAre (flag_entries k) v l.flags
    × MatchOption (elements_of (child_entries k)) (AreFields v (child_entries k) fs) (λ p. AreElements p.sort p.last (list_of (field_of p.field v)) fs)
    × (value_agrees k v ≡ true)

label_same : (v : Data) (k : AstType) (l m : Label) (fs gs : Fields) → FormOf v k l fs → FormOf v k m gs → bare_label l ≡ bare_label m
label_same v k l m fs gs h g =
    λ i. record {
      id = 0;
      start = offset_same (field_of f-Start v) l.start m.start h.0 g.0 i;
      stop = offset_same (field_of f-End v) l.stop m.stop h.1 g.1 i;
      texts = texts_same (text_entries k) v l.texts m.texts h.3 g.3 i;
      flags = flags_same (flag_entries k) v l.flags m.flags h.4 g.4 i;
      marks = [];
    }

-- by the one place of an array, or by the places of any other node
chosen : {X A B : Type 0} {P Q : ElementsPlace → Type 0} (o : Option ElementsPlace) → (A → B → X) → ((p : ElementsPlace) → P p → Q p → X) → MatchOption o A P → MatchOption o B Q → X
chosen None f g a b = f a b
chosen (Some p) f g a b = g p a b

mutual
  pub same_tree : (s : Sort) (v : Data) (t u : Tree) → IsForm s v t → IsForm s v u → bare t ≡ bare u
  same_tree s v (node k l fs) (node m n gs) h g =
      let kinds : m ≡ k = cc (h.0, g.0) in
      let first : FormOf v k l fs = (h.1, h.2, h.3, h.4, h.5, h.6, h.7) in
      let other : FormOf v m n gs = (g.1, g.2, g.3, g.4, g.5, g.6, g.7) in
      let P : AstType → Type 0 = λ j. FormOf v j n gs in
      let second : FormOf v k n gs = subst P kinds other in
      let children : bare_fields fs ≡ bare_fields gs =
      chosen (elements_of (child_entries k)) (λ a b. same_fields v (child_entries k) fs gs a b) (λ p a b. same_elements p.sort p.last (list_of (field_of p.field v)) fs gs a b) first.5 second.5 in
      λ i. node (sym kinds i) (label_same v k l n fs gs first second i) (children i)

  same_elements : (s last : Sort) (o : Option Items) (fs gs : Fields) → AreElements s last o fs → AreElements s last o gs → bare_fields fs ≡ bare_fields gs
  same_elements s last None fs gs h g = absurd h
  same_elements s last (Some no_items) done done h g = refl
  same_elements s last (Some no_items) (f then fs) gs h g = absurd h
  same_elements s last (Some no_items) done (f then fs) h g = absurd g
  same_elements s last (Some (item d ds)) done gs h g = absurd h
  same_elements s last (Some (item d ds)) (f then fs) done h g = absurd g
  same_elements s last (Some (item d ds)) (f then fs) (e then gs) h g = λ i. same_element (sort_before s last ds) d f e h.0 g.0 i then same_elements s last (Some ds) fs gs h.1 g.1 i

  same_element : (s : Sort) (d : Data) (f e : Field) → IsElement s d f → IsElement s d e → bare_field f ≡ bare_field e
  same_element s d missing missing h g = refl
  same_element s d missing (one u) h g = absurd (null_no_form s d u h g)
  same_element s d missing (many us) h g = absurd g
  same_element s d missing (statements us) h g = absurd g
  same_element s d (one t) missing h g = absurd (null_no_form s d t g h)
  same_element s d (one t) (one u) h g = ap one (same_tree s d t u h g)
  same_element s d (one t) (many us) h g = absurd g
  same_element s d (one t) (statements us) h g = absurd g
  same_element s d (many ts) e h g = absurd h
  same_element s d (statements ts) e h g = absurd h

  same_fields : (v : Data) (es : List Entry) (fs gs : Fields) → AreFields v es fs → AreFields v es gs → bare_fields fs ≡ bare_fields gs
  same_fields v [] done done h g = refl
  same_fields v [] (f then fs) gs h g = absurd h
  same_fields v [] done (f then fs) h g = absurd g
  same_fields v (e ∷ es) done gs h g = absurd h
  same_fields v (e ∷ es) (f then fs) done h g = absurd g
  same_fields v (e ∷ es) (f then fs) (b then gs) h g = λ i. same_child v e.content (field_of e.field v) f b h.0 g.0 i then same_fields v es fs gs h.1 g.1 i

  same_child : (v : Data) (c : Content) (o : Option Data) (f b : Field) → IsChild v c o f → IsChild v c o b → bare_field f ≡ bare_field b
  same_child v (c-Child s Required) (Some d) (one t) (one u) h g = ap one (same_tree (sort_in v s) d t u h g)
  same_child v (c-Child s Optional) None missing missing h g = refl
  same_child v (c-Child s Optional) (Some d) missing missing h g = refl
  same_child v (c-Child s Optional) (Some d) missing (one u) h g = absurd (null_no_form (sort_in v s) d u h g)
  same_child v (c-Child s Optional) (Some d) (one t) missing h g = absurd (null_no_form (sort_in v s) d t g h)
  same_child v (c-Child s Optional) (Some d) (one t) (one u) h g = ap one (same_tree (sort_in v s) d t u h g)
  same_child v (c-Child s a-List) o (many ts) (many us) h g = ap many (same_items s s (list_of o) ts us h g)
  same_child v (c-Child s NonEmptyList) o (many (t before ts)) (many (u before us)) h g = ap many (same_items s s (list_of o) (t before ts) (u before us) h g)
  same_child v (c-Child s ListWithRest) o (many ts) (many us) h g = ap many (same_items s (rest_sort s) (list_of o) ts us h g)
  same_child v (c-Child s Statements) o (statements ts) (statements us) h g = ap statements (same_items s s (list_of o) ts us h g)
  same_child v (c-Child s Required) None f b h g = absurd h
  same_child v (c-Child s Required) (Some d) missing b h g = absurd h
  same_child v (c-Child s Required) (Some d) (many ts) b h g = absurd h
  same_child v (c-Child s Required) (Some d) (statements ts) b h g = absurd h
  same_child v (c-Child s Required) (Some d) (one t) missing h g = absurd g
  same_child v (c-Child s Required) (Some d) (one t) (many us) h g = absurd g
  same_child v (c-Child s Required) (Some d) (one t) (statements us) h g = absurd g
  same_child v (c-Child s Optional) None (one t) b h g = absurd h
  same_child v (c-Child s Optional) None (many t) b h g = absurd h
  same_child v (c-Child s Optional) None (statements t) b h g = absurd h
  same_child v (c-Child s Optional) None missing (one u) h g = absurd g
  same_child v (c-Child s Optional) None missing (many u) h g = absurd g
  same_child v (c-Child s Optional) None missing (statements u) h g = absurd g
  same_child v (c-Child s Optional) (Some d) (many ts) b h g = absurd h
  same_child v (c-Child s Optional) (Some d) (statements ts) b h g = absurd h
  same_child v (c-Child s Optional) (Some d) missing (many us) h g = absurd g
  same_child v (c-Child s Optional) (Some d) missing (statements us) h g = absurd g
  same_child v (c-Child s Optional) (Some d) (one t) (many us) h g = absurd g
  same_child v (c-Child s Optional) (Some d) (one t) (statements us) h g = absurd g
  same_child v (c-Child s a-List) o missing b h g = absurd h
  same_child v (c-Child s a-List) o (one t) b h g = absurd h
  same_child v (c-Child s a-List) o (statements t) b h g = absurd h
  same_child v (c-Child s a-List) o (many ts) missing h g = absurd g
  same_child v (c-Child s a-List) o (many ts) (one u) h g = absurd g
  same_child v (c-Child s a-List) o (many ts) (statements u) h g = absurd g
  same_child v (c-Child s NonEmptyList) o missing b h g = absurd h
  same_child v (c-Child s NonEmptyList) o (one t) b h g = absurd h
  same_child v (c-Child s NonEmptyList) o (statements t) b h g = absurd h
  same_child v (c-Child s NonEmptyList) o (many empty) b h g = absurd h
  same_child v (c-Child s NonEmptyList) o (many (t before ts)) missing h g = absurd g
  same_child v (c-Child s NonEmptyList) o (many (t before ts)) (one u) h g = absurd g
  same_child v (c-Child s NonEmptyList) o (many (t before ts)) (statements u) h g = absurd g
  same_child v (c-Child s NonEmptyList) o (many (t before ts)) (many empty) h g = absurd g
  same_child v (c-Child s ListWithRest) o missing b h g = absurd h
  same_child v (c-Child s ListWithRest) o (one t) b h g = absurd h
  same_child v (c-Child s ListWithRest) o (statements t) b h g = absurd h
  same_child v (c-Child s ListWithRest) o (many ts) missing h g = absurd g
  same_child v (c-Child s ListWithRest) o (many ts) (one u) h g = absurd g
  same_child v (c-Child s ListWithRest) o (many ts) (statements u) h g = absurd g
  same_child v (c-Child s Statements) o missing b h g = absurd h
  same_child v (c-Child s Statements) o (one t) b h g = absurd h
  same_child v (c-Child s Statements) o (many t) b h g = absurd h
  same_child v (c-Child s Statements) o (statements ts) missing h g = absurd g
  same_child v (c-Child s Statements) o (statements ts) (one u) h g = absurd g
  same_child v (c-Child s Statements) o (statements ts) (many u) h g = absurd g
  same_child v (c-Child s Elements) o f b h g = absurd h
  same_child v (c-Child s ElementsWithRest) o f b h g = absurd h
  same_child v (c-Text r) o f b h g = absurd h
  same_child v c-OptionalText o f b h g = absurd h
  same_child v c-Flag o f b h g = absurd h
  same_child v c-RequiredFlag o f b h g = absurd h
  same_child v c-Refused o f b h g = absurd h

  same_items : (s last : Sort) (o : Option Items) (ts us : Trees) → AreItems s last o ts → AreItems s last o us → bare_trees ts ≡ bare_trees us
  same_items s last None ts us h g = absurd h
  same_items s last (Some no_items) empty empty h g = refl
  same_items s last (Some no_items) (t before ts) us h g = absurd h
  same_items s last (Some no_items) empty (u before us) h g = absurd g
  same_items s last (Some (item d ds)) empty us h g = absurd h
  same_items s last (Some (item d ds)) (t before ts) empty h g = absurd g
  same_items s last (Some (item d ds)) (t before ts) (u before us) h g = λ i. same_tree (sort_before s last ds) d t u h.0 g.0 i before same_items s last (Some ds) ts us h.1 g.1 i
