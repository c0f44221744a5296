-- What the fields of a node are, where it has form: as many as its kind has, each with what may stand there.
use Rattle.std.proofs.Common.{◌≡◌, refl, [], ◌∷◌}
use Rattle.std.specs.Prelude.{Bool, true, false}
use Rattle.std.proofs.lemmas.Bool.{and_parts}
use Rattle.es_tree.specs.HasForm.{field_form, fields_form, has_form, sort_at, trees_form}
use Rattle.es_tree.specs.Table.{rest_sort}
use Rattle.es_tree.specs.Tree.{Tree, Label, Fields, done, ◌then◌, Field, missing, one, many, statements, Trees, ◌before◌}
use Rattle.es_tree.specs.declared.ast_type.AstType.{AstType}
use Rattle.es_tree.specs.declared.table.Content.{Content}
use Rattle.es_tree.specs.declared.table.Content.TheVariants.{Child as c-Child}
use Rattle.es_tree.specs.declared.table.Entry.{Entry}
use Rattle.es_tree.specs.declared.table.FieldName.{FieldName}
use Rattle.es_tree.specs.declared.table.Often.TheVariants.{ListWithRest, NonEmptyList, Optional, Required}
use Rattle.es_tree.specs.declared.table.Sort.{Sort}

-- FIELDS, each of which passes its test

pub data AreOne (p : Field → Bool) : Fields → Type 0 where
  are_one : (f : Field) → p f ≡ true → AreOne p (f then done)

pub data AreTwo (p q : Field → Bool) : Fields → Type 0 where
  are_two : (f g : Field) → p f ≡ true → q g ≡ true → AreTwo p q (f then g then done)

pub data AreThree (p q r : Field → Bool) : Fields → Type 0 where
  are_three : (f g h : Field) → p f ≡ true → q g ≡ true → r h ≡ true → AreThree p q r (f then g then h then done)

-- what may stand in one of them

pub data IsNode (s : Sort) : Field → Type 0 where
  is_node : (t : Tree) → has_form s t ≡ true → IsNode s (one t)

pub data IsMaybe (s : Sort) : Field → Type 0 where
  not_there : IsMaybe s missing
  is_there : (t : Tree) → has_form s t ≡ true → IsMaybe s (one t)

pub data IsList (s last : Sort) : Field → Type 0 where
  is_list : (ts : Trees) → trees_form s last ts ≡ true → IsList s last (many ts)

module _ (k : AstType) (l : Label) where
  pub one-field : (a : Entry) (fs : Fields) → fields_form k l (a ∷ []) fs ≡ true → AreOne (field_form k l a.content) fs
  one-field a done h = absurd (cc h)
  one-field a (f then done) h = are_one f (and_parts (field_form k l a.content f) true h).0
  one-field a (f then g then fs) h = absurd (cc (and_parts (field_form k l a.content f) (fields_form k l [] (g then fs)) h).1)

  pub two-fields : (a b : Entry) (fs : Fields) → fields_form k l (a ∷ b ∷ []) fs ≡ true → AreTwo (field_form k l a.content) (field_form k l b.content) fs
  two-fields a b done h = absurd (cc h)
  two-fields a b (f then gs) h = let d = and_parts (field_form k l a.content f) (fields_form k l (b ∷ []) gs) h in at gs d.0 (one-field b gs d.1)
    where
      at : (gs : Fields) → field_form k l a.content f ≡ true → AreOne (field_form k l b.content) gs → AreTwo (field_form k l a.content) (field_form k l b.content) (f then gs)
      at gs d (are_one g e) = are_two f g d e

  pub three-fields : (a b c : Entry) (fs : Fields) → fields_form k l (a ∷ b ∷ c ∷ []) fs ≡ true → AreThree (field_form k l a.content) (field_form k l b.content) (field_form k l c.content) fs
  three-fields a b c done h = absurd (cc h)
  three-fields a b c (f then gs) h = let d = and_parts (field_form k l a.content f) (fields_form k l (b ∷ c ∷ []) gs) h in at gs d.0 (two-fields b c gs d.1)
    where
      at : (gs : Fields) → field_form k l a.content f ≡ true → AreTwo (field_form k l b.content) (field_form k l c.content) gs → AreThree (field_form k l a.content) (field_form k l b.content) (field_form k l c.content) (f then gs)
      at gs d (are_two g h e e') = are_three f g h d e e'

  pub required : (s : Sort) (f : Field) → field_form k l (c-Child s Required) f ≡ true → IsNode (sort_at k l s) f
  required s missing h = absurd (cc h)
  required s (one t) h = is_node t h
  required s (many ts) h = absurd (cc h)
  required s (statements ts) h = absurd (cc h)

  pub optional : (s : Sort) (f : Field) → field_form k l (c-Child s Optional) f ≡ true → IsMaybe (sort_at k l s) f
  optional s missing h = not_there
  optional s (one t) h = is_there t h
  optional s (many ts) h = absurd (cc h)
  optional s (statements ts) h = absurd (cc h)

  pub with-rest : (s : Sort) (f : Field) → field_form k l (c-Child s ListWithRest) f ≡ true → IsList s (rest_sort s) f
  with-rest s missing h = absurd (cc h)
  with-rest s (one t) h = absurd (cc h)
  with-rest s (many ts) h = is_list ts h
  with-rest s (statements ts) h = absurd (cc h)

  pub some-list : (s : Sort) (f : Field) → field_form k l (c-Child s NonEmptyList) f ≡ true → IsList s s f
  some-list s missing h = absurd (cc h)
  some-list s (one t) h = absurd (cc h)
  some-list s (many (t before ts)) h = is_list (t before ts) h
  some-list s (many _) h = absurd (cc h)
  some-list s (statements ts) h = absurd (cc h)

-- SHAPES: a list alone, one node alone, and two nodes

abbrev pub is_list_alone : Fields → Bool
is_list_alone (many ts then done) = true
is_list_alone _ = false

abbrev pub is_node_alone : Fields → Bool
is_node_alone (one t then done) = true
is_node_alone _ = false

abbrev pub is_pair : Fields → Bool
is_pair (one t then one u then done) = true
is_pair _ = false

abbrev pub entry : FieldName → Content → Entry
entry f c = record { field = f; content = c }

module _ (k : AstType) (l : Label) where
  pub list-shape : (a : FieldName) (s : Sort) (fs : Fields) → fields_form k l (entry a (c-Child s ListWithRest) ∷ []) fs ≡ true → is_list_alone fs ≡ true
  list-shape a s fs h = at fs (one-field k l _ fs h)
    where
      it : (f : Field) → IsList s (rest_sort s) f → is_list_alone (f then done) ≡ true
      it f (is_list ts e) = refl

      at : (fs : Fields) → AreOne (field_form k l (c-Child s ListWithRest)) fs → is_list_alone fs ≡ true
      at fs (are_one f e) = it f (with-rest k l s f e)

  pub node-shape : (a : FieldName) (s : Sort) (fs : Fields) → fields_form k l (entry a (c-Child s Required) ∷ []) fs ≡ true → is_node_alone fs ≡ true
  node-shape a s fs h = at fs (one-field k l _ fs h)
    where
      it : (f : Field) → IsNode (sort_at k l s) f → is_node_alone (f then done) ≡ true
      it f (is_node t e) = refl

      at : (fs : Fields) → AreOne (field_form k l (c-Child s Required)) fs → is_node_alone fs ≡ true
      at fs (are_one f e) = it f (required k l s f e)

  pub pair-shape : (a b : FieldName) (s q : Sort) (fs : Fields) → fields_form k l (entry a (c-Child s Required) ∷ entry b (c-Child q Required) ∷ []) fs ≡ true → is_pair fs ≡ true
  pair-shape a b s q fs h = at fs (two-fields k l _ _ fs h)
    where
      it : (f g : Field) → IsNode (sort_at k l s) f → IsNode (sort_at k l q) g → is_pair (f then g then done) ≡ true
      it f g (is_node t e) (is_node u d) = refl

      at : (fs : Fields) → AreTwo (field_form k l (c-Child s Required)) (field_form k l (c-Child q Required)) fs → is_pair fs ≡ true
      at fs (are_two f g e d) = it f g (required k l s f e) (required k l q g d)
