-- Tests of the items of a list for one that passes, made one after the other.
use Rattle.std.proofs.Common.{◌≡◌, ℕ, zero, suc, ◌+◌, ◌<◌, List, [], ◌∷◌, length, get_or, take, refl, ap, sym, ◌∙◌, arith, add-one, Bool, true, false, ◌||◌}

both_false : (a b : Bool) → a ≡ false → b ≡ false → (a || b) ≡ false
both_false a b e d = rw (e, d) refl

pub or_true : (a : Bool) → (a || true) ≡ true
or_true true = refl
or_true false = refl

right_true : (a b : Bool) → b ≡ true → (a || b) ≡ true
right_true a b h = rw h (or_true a)

left_false : (a b : Bool) → (a || b) ≡ false → a ≡ false
left_false false b h = refl
left_false true b h = h

right_false : (a b : Bool) → (a || b) ≡ false → b ≡ false
right_false false b h = h
right_false true b h = cc

module _ {X : Type 0} (any : List X → Bool) (q : X → Bool) (none : any [] ≡ false) (step : (x : X) (xs : List X) → any (x ∷ xs) ≡ (q x || any xs)) where
  none_more-suc : (xs : List X) (i : ℕ) (x : X) → i < length xs → x ≡ get_or xs i x → any (take i xs) ≡ false → q x ≡ false → any (take (suc i) xs) ≡ false
  none_more-suc [] i x l e h f = absurd (omega (arith, l))
  none_more-suc (y ∷ ys) zero x l e h f = step y [] ∙ both_false (q y) (any []) (ap q (sym e) ∙ f) none
  none_more-suc (y ∷ ys) (suc i) x l e h f =
      let parts : (q y || any (take i ys)) ≡ false = sym (step y (take i ys)) ∙ h in
      step y (take (suc i) ys) ∙ both_false (q y) (any (take (suc i) ys)) (left_false (q y) (any (take i ys)) parts) (none_more-suc ys i x (omega (arith, l)) e (right_false (q y) (any (take i ys)) parts) f)

  -- one more item fails
  pub none_more : (xs : List X) (i : ℕ) (x : X) → i < length xs → x ≡ get_or xs i x → any (take i xs) ≡ false → q x ≡ false → any (take (i + 1) xs) ≡ false
  none_more xs i x l e h f = rw (add-one i) (none_more-suc xs i x l e h f)

  -- an item passes
  pub any_passes : (xs : List X) (i : ℕ) (x : X) → i < length xs → x ≡ get_or xs i x → q x ≡ true → any xs ≡ true
  any_passes [] i x l e t = absurd (omega (arith, l))
  any_passes (y ∷ ys) zero x l e t = step y ys ∙ ap (λ b. b || any ys) (ap q (sym e) ∙ t)
  any_passes (y ∷ ys) (suc i) x l e t = step y ys ∙ right_true (q y) (any ys) (any_passes ys i x (omega (arith, l)) e t)
