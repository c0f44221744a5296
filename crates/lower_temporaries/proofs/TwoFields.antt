-- Names, and fields that are two children: as the code sees them, as they are seen, and by form.
use Rattle.std.proofs.Common.{◌≡◌, ◌<◌, ℕ, List, [], ◌∷◌, length, refl, arith, Option}
use Rattle.std.specs.Prelude.{Bool, true, false, ◌&&◌}
use Rattle.es_tree.specs.HasForm.{field_form, fields_form, has_form, sort_at}
use Rattle.es_tree.specs.Tree.{Tree, node, Label, Fields, done, ◌then◌, Field, missing, one, many, statements}
use Rattle.es_tree.specs.Views.{plain_field, plain_fields}
use Rattle.es_tree.specs.Words.{Text}
use Rattle.es_tree.specs.declared.ast_type.AstType.{AstType}
use Rattle.es_tree.specs.declared.ast_type.AstType.TheVariants.{Identifier}
use Rattle.es_tree.specs.declared.node.Field.{Field as NodeField}
use Rattle.es_tree.specs.declared.table.Content.TheVariants.{Child}
use Rattle.es_tree.specs.declared.table.Entry.{Entry}
use Rattle.es_tree.specs.declared.table.Often.TheVariants.{Required}
use Rattle.es_tree.specs.declared.table.Sort.{Sort}
use Rattle.es_resolution.specs.Seen.{seen, seen_in}
use Rattle.es_runs.proofs.Named.{and_left, and_right}
use Rattle.es_runs.specs.Duplication.{has_no_fields}
use Rattle.lower_temporaries.specs.Shapes.{is_name, on_two}
use Rattle.lower_temporaries.proofs.ReadAgain.{no_fields-seen}

-- AS THE CODE SEES THEM

module _ (P : Tree → Tree → Bool) where
  one_field : (f : Field) → on_two P (f then done) ≡ false
  one_field missing = refl
  one_field (one t) = refl
  one_field (many ts) = refl
  one_field (statements ts) = refl

  three_fields : (f g h : Field) (fs : Fields) → on_two P (f then (g then (h then fs))) ≡ false
  three_fields (one l) (one r) h fs = refl
  three_fields (one l) missing h fs = refl
  three_fields (one l) (many ts) h fs = refl
  three_fields (one l) (statements ts) h fs = refl
  three_fields missing g h fs = refl
  three_fields (many ts) g h fs = refl
  three_fields (statements ts) g h fs = refl

  pub fewer_than_two : (fs : List NodeField) → length fs < 2 → on_two P (plain_fields fs) ≡ false
  fewer_than_two [] h = refl
  fewer_than_two (f ∷ []) h = one_field (plain_field f)
  fewer_than_two (f ∷ g ∷ fs) h = absurd (omega (arith, h))

  pub more_than_two : (fs : List NodeField) → 2 < length fs → on_two P (plain_fields fs) ≡ false
  more_than_two (f ∷ g ∷ k ∷ fs) h = three_fields (plain_field f) (plain_field g) (plain_field k) (plain_fields fs)
  more_than_two [] h = absurd (omega (arith, h))
  more_than_two (f ∷ []) h = absurd (omega (arith, h))
  more_than_two (f ∷ g ∷ []) h = absurd (omega (arith, h))

-- AS THEY ARE SEEN

module _ (names : ℕ → Text → Option ℕ) where
  pub name-seen : (t : Tree) → is_name (seen names t) ≡ is_name t
  name-seen (node Identifier l fs) = no_fields-seen names fs
  name-seen (node _ l fs) = refl

  pub two-seen : (P : Tree → Tree → Bool) → ((a b : Tree) → P (seen names a) (seen names b) ≡ P a b) → (fs : Fields) → on_two P (seen_in names fs) ≡ on_two P fs
  two-seen P same (one a then (one b then done)) = same a b
  two-seen P same done = refl
  two-seen P same (missing then fs) = refl
  two-seen P same (many ts then fs) = refl
  two-seen P same (statements ts then fs) = refl
  two-seen P same (one a then done) = refl
  two-seen P same (one a then (missing then fs)) = refl
  two-seen P same (one a then (many ts then fs)) = refl
  two-seen P same (one a then (statements ts then fs)) = refl
  two-seen P same (one a then (one b then (f then fs))) = refl

-- BY FORM

-- a node of such a kind has no children
pub no-part : (k : AstType) (l : Label) (fs : Fields) → fields_form k l [] fs ≡ true → has_no_fields fs ≡ true
no-part k l done h = refl
no-part k l (f then fs) h = absurd (cc h)

-- the two children that a node of such a kind has
pub record TwoChildren (k : AstType) (l : Label) (s u : Sort) (fs : Fields) : Type 0 where
  pub first : Tree
  pub second : Tree
  pub fields_are : fs ≡ (one first then (one second then done))
  pub left : has_form (sort_at k l s) first ≡ true
  pub right : has_form (sort_at k l u) second ≡ true

module _ (k : AstType) (l : Label) (s u : Sort) (d e : Entry) (i : d.content ≡ Child s Required) (j : e.content ≡ Child u Required) where
  pub two-children : (fs : Fields) → fields_form k l (d ∷ e ∷ []) fs ≡ true → TwoChildren k l s u fs
  two-children (one a then (one b then done)) h =
      let below = and_right (field_form k l d.content (one a)) (field_form k l e.content (one b) && true) h in
      let left = and_left (field_form k l d.content (one a)) (field_form k l e.content (one b) && true) h in
      let right = and_left (field_form k l e.content (one b)) true below in
      record { first = a; second = b; fields_are = refl; left = rw i at left; right = rw j at right }
  two-children (f then (g then (x then fs))) h = absurd (cc (and_right (field_form k l e.content g) false (and_right (field_form k l d.content f) (field_form k l e.content g && false) h)))
  two-children (one a then (missing then done)) h = absurd (cc (and_right (has_form (sort_at k l s) a) false (rw (i, j) at h)))
  two-children (one a then (many ts then done)) h = absurd (cc (and_right (has_form (sort_at k l s) a) false (rw (i, j) at h)))
  two-children (one a then (statements ts then done)) h = absurd (cc (and_right (has_form (sort_at k l s) a) false (rw (i, j) at h)))
  two-children (missing then (g then done)) h = absurd (cc (rw i at h))
  two-children (many ts then (g then done)) h = absurd (cc (rw i at h))
  two-children (statements ts then (g then done)) h = absurd (cc (rw i at h))
  two-children (f then done) h = absurd (cc (and_right (field_form k l d.content f) false h))
  two-children done h = absurd (cc h)
