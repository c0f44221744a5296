-- Fields that are too few or too many for an export of a namespace.
use Rattle.std.proofs.Common.{◌≡◌, ◌<◌, List, [], ◌∷◌, length, refl, arith}
use Rattle.std.specs.Prelude.{false}
use Rattle.es_tree.specs.Tree.{Tree, Fields, done, ◌then◌, Field, missing, one, many, statements}
use Rattle.es_tree.specs.Views.{plain_field, plain_fields}
use Rattle.es_tree.specs.declared.node.Field.{Field as NodeField}
use Rattle.lower_namespace_exports.specs.Exports.{is_whole}

one_field : (f : Field) → is_whole (f then done) ≡ false
one_field missing = refl
one_field (one t) = refl
one_field (many ts) = refl
one_field (statements ts) = refl

second_alone : (e : Tree) (g : Field) → is_whole (one e then (g then done)) ≡ false
second_alone e missing = refl
second_alone e (one t) = refl
second_alone e (many ts) = refl
second_alone e (statements ts) = refl

two_fields : (f g : Field) → is_whole (f then (g then done)) ≡ false
two_fields missing g = refl
two_fields (one t) g = second_alone t g
two_fields (many ts) g = refl
two_fields (statements ts) g = refl

pub few-fields : (fs : List NodeField) → length fs < 3 → is_whole (plain_fields fs) ≡ false
few-fields [] h = refl
few-fields (f ∷ []) h = one_field (plain_field f)
few-fields (f ∷ g ∷ []) h = two_fields (plain_field f) (plain_field g)
few-fields (f ∷ g ∷ k ∷ fs) h = absurd (omega (arith, h))

third_not_last : (e s : Tree) (k m : Field) (fs : Fields) → is_whole (one e then (one s then (k then (m then fs)))) ≡ false
third_not_last e s missing m fs = refl
third_not_last e s (one t) m fs = refl
third_not_last e s (many ts) m fs = refl
third_not_last e s (statements ts) m fs = refl

second_not_last : (e : Tree) (g k m : Field) (fs : Fields) → is_whole (one e then (g then (k then (m then fs)))) ≡ false
second_not_last e missing k m fs = refl
second_not_last e (one t) k m fs = third_not_last e t k m fs
second_not_last e (many ts) k m fs = refl
second_not_last e (statements ts) k m fs = refl

four_fields : (f g k m : Field) (fs : Fields) → is_whole (f then (g then (k then (m then fs)))) ≡ false
four_fields missing g k m fs = refl
four_fields (one t) g k m fs = second_not_last t g k m fs
four_fields (many ts) g k m fs = refl
four_fields (statements ts) g k m fs = refl

pub more-fields : (fs : List NodeField) → 3 < length fs → is_whole (plain_fields fs) ≡ false
more-fields [] h = absurd (omega (arith, h))
more-fields (f ∷ []) h = absurd (omega (arith, h))
more-fields (f ∷ g ∷ []) h = absurd (omega (arith, h))
more-fields (f ∷ g ∷ k ∷ []) h = absurd (omega (arith, h))
more-fields (f ∷ g ∷ k ∷ m ∷ fs) h = four_fields (plain_field f) (plain_field g) (plain_field k) (plain_field m) (plain_fields fs)
