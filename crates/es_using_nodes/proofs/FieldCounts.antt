-- Tests of a node's fields that are passed only by two of them, or only by three.
use Rattle.std.proofs.Common.{◌≡◌, ◌<◌, ◌∷◌, Bool, List, [], arith, false, length}
use Rattle.es_tree.specs.Tree.{Fields, done, ◌then◌, Field}
use Rattle.es_tree.specs.Views.{plain_field, plain_fields}
use Rattle.es_tree.specs.declared.node.Field.{Field as NodeField}

module _ (P : Fields → Bool) (never : P done ≡ false) (alone : (f : Field) → P (f then done) ≡ false) (longer : (f g h : Field) (fs : Fields) → P (f then g then h then fs) ≡ false) where
  pub fewer : (fs : List NodeField) → length fs < 2 → P (plain_fields fs) ≡ false
  fewer [] h = never
  fewer (f ∷ []) h = alone (plain_field f)
  fewer (f ∷ g ∷ fs) h = absurd (omega (arith, h))

  pub more : (fs : List NodeField) → 2 < length fs → P (plain_fields fs) ≡ false
  more [] h = absurd (omega (arith, h))
  more (f ∷ []) h = absurd (omega (arith, h))
  more (f ∷ g ∷ []) h = absurd (omega (arith, h))
  more (f ∷ g ∷ i ∷ fs) h = longer (plain_field f) (plain_field g) (plain_field i) (plain_fields fs)

module _ (P : Fields → Bool) (never : P done ≡ false) (alone : (f : Field) → P (f then done) ≡ false) (pair : (f g : Field) → P (f then g then done) ≡ false) where
  pub fewer-than-three : (fs : List NodeField) → length fs < 3 → P (plain_fields fs) ≡ false
  fewer-than-three [] h = never
  fewer-than-three (f ∷ []) h = alone (plain_field f)
  fewer-than-three (f ∷ g ∷ []) h = pair (plain_field f) (plain_field g)
  fewer-than-three (f ∷ g ∷ i ∷ fs) h = absurd (omega (arith, h))

module _ (P : Fields → Bool) (longer : (f g h i : Field) (fs : Fields) → P (f then g then h then i then fs) ≡ false) where
  pub more-than-three : (fs : List NodeField) → 3 < length fs → P (plain_fields fs) ≡ false
  more-than-three [] h = absurd (omega (arith, h))
  more-than-three (f ∷ []) h = absurd (omega (arith, h))
  more-than-three (f ∷ g ∷ []) h = absurd (omega (arith, h))
  more-than-three (f ∷ g ∷ i ∷ []) h = absurd (omega (arith, h))
  more-than-three (f ∷ g ∷ i ∷ j ∷ fs) h = longer (plain_field f) (plain_field g) (plain_field i) (plain_field j) (plain_fields fs)
