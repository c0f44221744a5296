-- The first of the items of a list that gives something, looked for one after the other.
use Rattle.std.proofs.Common.{◌≡◌, ℕ, zero, suc, ◌+◌, ◌<◌, List, [], ◌∷◌, length, get_or, take, refl, ap, sym, ◌∙◌, arith, add-one, Option, Some, None}
use Rattle.es_tree.specs.Walks.{or_later}

neither : (a b : Option ℕ) → a ≡ None → b ≡ None → or_later a b ≡ None
neither a b e d = rw (e, d) refl

left_none : (a b : Option ℕ) → or_later a b ≡ None → a ≡ None
left_none None b h = refl
left_none (Some n) b h = cc

right_none : (a b : Option ℕ) → or_later a b ≡ None → b ≡ None
right_none None b h = h
right_none (Some n) b h = cc

module _ {X : Type 0} (first : List X → Option ℕ) (q : X → Option ℕ) (none : first [] ≡ None) (step : (x : X) (xs : List X) → first (x ∷ xs) ≡ or_later (q x) (first xs)) where
  none_further-suc : (xs : List X) (i : ℕ) (x : X) → i < length xs → x ≡ get_or xs i x → first (take i xs) ≡ None → q x ≡ None → first (take (suc i) xs) ≡ None
  none_further-suc [] i x l e h f = absurd (omega (arith, l))
  none_further-suc (y ∷ ys) zero x l e h f = step y [] ∙ neither (q y) (first []) (ap q (sym e) ∙ f) none
  none_further-suc (y ∷ ys) (suc i) x l e h f =
      let parts : or_later (q y) (first (take i ys)) ≡ None = sym (step y (take i ys)) ∙ h in
      step y (take (suc i) ys) ∙ neither (q y) (first (take (suc i) ys)) (left_none (q y) (first (take i ys)) parts) (none_further-suc ys i x (omega (arith, l)) e (right_none (q y) (first (take i ys)) parts) f)

  -- one more item gives nothing
  pub none_further : (xs : List X) (i : ℕ) (x : X) → i < length xs → x ≡ get_or xs i x → first (take i xs) ≡ None → q x ≡ None → first (take (i + 1) xs) ≡ None
  none_further xs i x l e h f = rw (add-one i) (none_further-suc xs i x l e h f)

  -- an item gives something, and none before it does
  pub first_found : (xs : List X) (i : ℕ) (x : X) (n : ℕ) → i < length xs → x ≡ get_or xs i x → first (take i xs) ≡ None → q x ≡ Some n → first xs ≡ Some n
  first_found [] i x n l e h f = absurd (omega (arith, l))
  first_found (y ∷ ys) zero x n l e h f = step y ys ∙ ap (λ o. or_later o (first ys)) (ap q (sym e) ∙ f)
  first_found (y ∷ ys) (suc i) x n l e h f =
      let parts : or_later (q y) (first (take i ys)) ≡ None = sym (step y (take i ys)) ∙ h in
      step y ys ∙ ap (λ o. or_later o (first ys)) (left_none (q y) (first (take i ys)) parts) ∙ first_found ys i x n (omega (arith, l)) e (right_none (q y) (first (take i ys)) parts) f
