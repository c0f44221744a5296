-- The first of the items of a list that gives something, looked for one after the other, where each stands at a place of its own.
use Rattle.std.proofs.Common.{◌≡◌, ℕ, zero, suc, ◌+◌, ◌<◌, List, [], ◌∷◌, length, get_or, take, refl, ap, sym, ◌∙◌, arith, add-one, Option, Some, None}
use Rattle.std.specs.Option.{option_or}

module _ {R : Type 0} where
  pub neither : (a b : Option R) → a ≡ None → b ≡ None → option_or a b ≡ None
  neither None b e d = d
  neither (Some r) b e d = e

  pub left_none : (a b : Option R) → option_or a b ≡ None → a ≡ None
  left_none None b h = refl
  left_none (Some r) b h = h

  pub right_none : (a b : Option R) → option_or a b ≡ None → b ≡ None
  right_none None b h = h
  right_none (Some r) b h = cc

module _ {P X R : Type 0} (first : (ℕ → P) → List X → Option R) (q : P → X → Option R) (none : (ps : ℕ → P) → first ps [] ≡ None) (step : (ps : ℕ → P) (x : X) (xs : List X) → first ps (x ∷ xs) ≡ option_or (q (ps zero) x) (first (λ i. ps (suc i)) xs)) where
  none_further-suc : (ps : ℕ → P) (xs : List X) (i : ℕ) (x : X) → i < length xs → x ≡ get_or xs i x → first ps (take i xs) ≡ None → q (ps i) x ≡ None → first ps (take (suc i) xs) ≡ None
  none_further-suc ps [] i x l e h f = absurd (omega (arith, l))
  none_further-suc ps (y ∷ ys) zero x l e h f = step ps y [] ∙ neither (q (ps zero) y) (first (λ i. ps (suc i)) []) (ap (q (ps zero)) (sym e) ∙ f) (none (λ i. ps (suc i)))
  none_further-suc ps (y ∷ ys) (suc i) x l e h f =
      let qs : ℕ → P = λ j. ps (suc j) in
      let parts : option_or (q (ps zero) y) (first qs (take i ys)) ≡ None = sym (step ps y (take i ys)) ∙ h in
      step ps y (take (suc i) ys) ∙ neither (q (ps zero) y) (first qs (take (suc i) ys)) (left_none (q (ps zero) y) (first qs (take i ys)) parts) (none_further-suc qs ys i x (omega (arith, l)) e (right_none (q (ps zero) y) (first qs (take i ys)) parts) f)

  -- one more item gives nothing
  pub none_further : (ps : ℕ → P) (xs : List X) (i : ℕ) (x : X) → i < length xs → x ≡ get_or xs i x → first ps (take i xs) ≡ None → q (ps i) x ≡ None → first ps (take (i + 1) xs) ≡ None
  none_further ps xs i x l e h f = rw (add-one i) (none_further-suc ps xs i x l e h f)

  -- an item gives something, and none before it does
  pub first_found : (ps : ℕ → P) (xs : List X) (i : ℕ) (x : X) (r : R) → i < length xs → x ≡ get_or xs i x → first ps (take i xs) ≡ None → q (ps i) x ≡ Some r → first ps xs ≡ Some r
  first_found ps [] i x r l e h f = absurd (omega (arith, l))
  first_found ps (y ∷ ys) zero x r l e h f = step ps y ys ∙ ap (λ o. option_or o (first (λ i. ps (suc i)) ys)) (ap (q (ps zero)) (sym e) ∙ f)
  first_found ps (y ∷ ys) (suc i) x r l e h f =
      let qs : ℕ → P = λ j. ps (suc j) in
      let parts : option_or (q (ps zero) y) (first qs (take i ys)) ≡ None = sym (step ps y (take i ys)) ∙ h in
      step ps y ys ∙ ap (λ o. option_or o (first qs ys)) (left_none (q (ps zero) y) (first qs (take i ys)) parts) ∙ first_found qs ys i x r (omega (arith, l)) e (right_none (q (ps zero) y) (first qs (take i ys)) parts) f

-- what holds of all items of a list holds of each
module _ {P X : Type 0} (All : (ℕ → P) → List X → Type 0) (Q : P → X → Type 0) (split : (ps : ℕ → P) (x : X) (xs : List X) → All ps (x ∷ xs) → Q (ps zero) x × All (λ i. ps (suc i)) xs) where
  pub holds_at : (ps : ℕ → P) (xs : List X) (i : ℕ) (x : X) → i < length xs → x ≡ get_or xs i x → All ps xs → Q (ps i) x
  holds_at ps [] i x l e h = absurd (omega (arith, l))
  holds_at ps (y ∷ ys) zero x l e h = let here : Q (ps zero) y = (split ps y ys h).0 in rw e here
  holds_at ps (y ∷ ys) (suc i) x l e h = holds_at (λ j. ps (suc j)) ys i x (omega (arith, l)) e (split ps y ys h).1
