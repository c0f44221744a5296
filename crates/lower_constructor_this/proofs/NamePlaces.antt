-- Whether a name stands in the fields of a node, in each of which an identifier counts or not, asked of one after the other.
use Rattle.std.proofs.Common.{◌≡◌, ℕ, zero, suc, ◌+◌, ◌<◌, List, [], ◌∷◌, length, get_or, take, refl, ap, sym, ◌∙◌, arith, add-one, Bool, true, false}
use Rattle.std.specs.Prelude.{◌||◌}
use Rattle.es_tree.specs.Views.{plain_field, plain_fields}
use Rattle.es_tree.specs.Words.{Text}
use Rattle.es_tree.specs.declared.node.Field.{Field as NodeField}
use Rattle.es_set_this.specs.ConstructorThis.{names_by, names_in}

both-false : (a b : Bool) → a ≡ false → b ≡ false → (a || b) ≡ false
both-false a b e d = rw (e, d) refl

right-true : (a b : Bool) → b ≡ true → (a || b) ≡ true
right-true true b h = refl
right-true false b h = h

left-true : (a b : Bool) → a ≡ true → (a || b) ≡ true
left-true a b h = rw h refl

left-false : (a b : Bool) → (a || b) ≡ false → a ≡ false
left-false false b h = refl
left-false true b h = h

right-false : (a b : Bool) → (a || b) ≡ false → b ≡ false
right-false false b h = h
right-false true b h = cc

-- FIELDS

none-in-suc : (y : Text) (c : ℕ → Bool) (xs : List NodeField) (i : ℕ) (x : NodeField) → i < length xs → x ≡ get_or xs i x → names_in y c (plain_fields (take i xs)) ≡ false → names_by y (c i) (plain_field x) ≡ false → names_in y c (plain_fields (take (suc i) xs)) ≡ false
none-in-suc y c [] i x l e h f = absurd (omega (arith, l))
none-in-suc y c (z ∷ zs) zero x l e h f = both-false (names_by y (c zero) (plain_field z)) false (ap (λ v. names_by y (c zero) (plain_field v)) (sym e) ∙ f) refl
none-in-suc y c (z ∷ zs) (suc i) x l e h f =
    let now = names_by y (c zero) (plain_field z) in
    let d = λ (j : ℕ). c (suc j) in
    let later = names_in y d (plain_fields (take i zs)) in
    both-false now (names_in y d (plain_fields (take (suc i) zs))) (left-false now later h) (none-in-suc y d zs i x (omega (arith, l)) e (right-false now later h) f)

pub none-in : (y : Text) (c : ℕ → Bool) (xs : List NodeField) (i : ℕ) (x : NodeField) → i < length xs → x ≡ get_or xs i x → names_in y c (plain_fields (take i xs)) ≡ false → names_by y (c i) (plain_field x) ≡ false → names_in y c (plain_fields (take (i + 1) xs)) ≡ false
none-in y c xs i x l e h f = rw (add-one i) (none-in-suc y c xs i x l e h f)

pub one-in : (y : Text) (c : ℕ → Bool) (xs : List NodeField) (i : ℕ) (x : NodeField) → i < length xs → x ≡ get_or xs i x → names_by y (c i) (plain_field x) ≡ true → names_in y c (plain_fields xs) ≡ true
one-in y c [] i x l e t = absurd (omega (arith, l))
one-in y c (z ∷ zs) zero x l e t = left-true (names_by y (c zero) (plain_field z)) (names_in y (λ j. c (suc j)) (plain_fields zs)) (ap (λ v. names_by y (c zero) (plain_field v)) (sym e) ∙ t)
one-in y c (z ∷ zs) (suc i) x l e t = right-true (names_by y (c zero) (plain_field z)) (names_in y (λ j. c (suc j)) (plain_fields zs)) (one-in y (λ j. c (suc j)) zs i x (omega (arith, l)) e t)
