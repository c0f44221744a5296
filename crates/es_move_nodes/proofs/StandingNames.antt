-- Tests of the fields of a node, in each of which an identifier counts or not, made one after the other.
use Rattle.std.proofs.Common.{◌≡◌, ℕ, zero, suc, ◌+◌, ◌<◌, List, [], ◌∷◌, length, get_or, take, map, refl, ap, sym, ◌∙◌, arith, add-one, Bool, true, false, ◌||◌}
use Rattle.es_tree.specs.Tree.{fields}
use Rattle.es_tree.specs.Views.{plain_field}
use Rattle.es_tree.specs.Words.{Text}
use Rattle.es_tree.specs.declared.node.Field.{Field as NodeField}
use Rattle.es_nodes.proofs.Anys.{or_true}
use Rattle.es_pattern_moves.specs.PatternMoves.{stands_in_field, stands_in_fields}

both-false : (a b : Bool) → a ≡ false → b ≡ false → (a || b) ≡ false
both-false a b e d = rw (e, d) refl

right-true : (a b : Bool) → b ≡ true → (a || b) ≡ true
right-true a b h = rw h (or_true a)

left-false : (a b : Bool) → (a || b) ≡ false → a ≡ false
left-false false b h = refl
left-false true b h = h

right-false : (a b : Bool) → (a || b) ≡ false → b ≡ false
right-false false b h = h
right-false true b h = cc

abbrev pub stands_at : (Text → Bool) → Bool → NodeField → Bool
stands_at p counts f = stands_in_field p counts (plain_field f)

abbrev pub stands_of : (Text → Bool) → (ℕ → Bool) → List NodeField → Bool
stands_of p c xs = stands_in_fields p c (fields (map plain_field xs))

module _ (p : Text → Bool) where
  none-stands-suc : (c : ℕ → Bool) (xs : List NodeField) (i : ℕ) (x : NodeField) → i < length xs → x ≡ get_or xs i x → stands_of p c (take i xs) ≡ false → stands_at p (c i) x ≡ false → stands_of p c (take (suc i) xs) ≡ false
  none-stands-suc c [] i x l e h f = absurd (omega (arith, l))
  none-stands-suc c (y ∷ ys) zero x l e h f = both-false (stands_at p (c zero) y) false (ap (stands_at p (c zero)) (sym e) ∙ f) refl
  none-stands-suc c (y ∷ ys) (suc i) x l e h f =
      both-false (stands_at p (c zero) y) (stands_of p (λ j. c (suc j)) (take (suc i) ys)) (left-false (stands_at p (c zero) y) (stands_of p (λ j. c (suc j)) (take i ys)) h)
      (none-stands-suc (λ j. c (suc j)) ys i x (omega (arith, l)) e (right-false (stands_at p (c zero) y) (stands_of p (λ j. c (suc j)) (take i ys)) h) f)

  pub none-stands : (c : ℕ → Bool) (xs : List NodeField) (i : ℕ) (x : NodeField) → i < length xs → x ≡ get_or xs i x → stands_of p c (take i xs) ≡ false → stands_at p (c i) x ≡ false → stands_of p c (take (i + 1) xs) ≡ false
  none-stands c xs i x l e h f = rw (add-one i) (none-stands-suc c xs i x l e h f)

  pub one-stands : (c : ℕ → Bool) (xs : List NodeField) (i : ℕ) (x : NodeField) → i < length xs → x ≡ get_or xs i x → stands_at p (c i) x ≡ true → stands_of p c xs ≡ true
  one-stands c [] i x l e t = absurd (omega (arith, l))
  one-stands c (y ∷ ys) zero x l e t = ap (λ b. b || stands_of p (λ j. c (suc j)) ys) (ap (stands_at p (c zero)) (sym e) ∙ t)
  one-stands c (y ∷ ys) (suc i) x l e t = right-true (stands_at p (c zero) y) (stands_of p (λ j. c (suc j)) ys) (one-stands (λ j. c (suc j)) ys i x (omega (arith, l)) e t)
