-- What the code sees of the fields of the steps of a spine.
use Rattle.std.proofs.Common.{◌≡◌, ◌<◌, List, [], ◌∷◌, length, refl, arith}
use Rattle.std.specs.Prelude.{false}
use Rattle.es_tree.specs.Tree.{Fields, done, ◌then◌, Field, missing, one, many, statements}
use Rattle.es_tree.specs.Views.{plain_field, plain_fields}
use Rattle.es_tree.specs.declared.node.Field.{Field as NodeField}
use Rattle.lower_chains.specs.Spines.{is_call_pair, is_single}

-- ONE FIELD

two_single : (f g : Field) (fs : Fields) → is_single (f then (g then fs)) ≡ false
two_single (one t) g fs = refl
two_single missing g fs = refl
two_single (many ts) g fs = refl
two_single (statements ts) g fs = refl

pub more_than_single : (fs : List NodeField) → 1 < length fs → is_single (plain_fields fs) ≡ false
more_than_single (f ∷ g ∷ fs) h = two_single (plain_field f) (plain_field g) (plain_fields fs)
more_than_single [] h = absurd (omega (arith, h))
more_than_single (f ∷ []) h = absurd (omega (arith, h))

-- TWO FIELDS

one_call : (f : Field) → is_call_pair (f then done) ≡ false
one_call (one t) = refl
one_call missing = refl
one_call (many ts) = refl
one_call (statements ts) = refl

three_call : (f g h : Field) (fs : Fields) → is_call_pair (f then (g then (h then fs))) ≡ false
three_call (one t) (many ts) h fs = refl
three_call (one t) missing h fs = refl
three_call (one t) (one u) h fs = refl
three_call (one t) (statements ts) h fs = refl
three_call missing g h fs = refl
three_call (many ts) g h fs = refl
three_call (statements ts) g h fs = refl

pub fewer_than_call : (fs : List NodeField) → length fs < 2 → is_call_pair (plain_fields fs) ≡ false
fewer_than_call [] h = refl
fewer_than_call (f ∷ []) h = one_call (plain_field f)
fewer_than_call (f ∷ g ∷ fs) h = absurd (omega (arith, h))

pub more_than_call : (fs : List NodeField) → 2 < length fs → is_call_pair (plain_fields fs) ≡ false
more_than_call (f ∷ g ∷ k ∷ fs) h = three_call (plain_field f) (plain_field g) (plain_field k) (plain_fields fs)
more_than_call [] h = absurd (omega (arith, h))
more_than_call (f ∷ []) h = absurd (omega (arith, h))
more_than_call (f ∷ g ∷ []) h = absurd (omega (arith, h))
