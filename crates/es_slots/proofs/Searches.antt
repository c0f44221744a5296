-- Tests of the fields of a node, each of which may be closed, made one after the other.
use Rattle.std.proofs.Common.{◌≡◌, ℕ, zero, suc, ◌+◌, ◌<◌, List, [], ◌∷◌, length, get_or, take, map, refl, ap, sym, ◌∙◌, arith, add-one, Bool, true, false, ◌||◌, ◌&&◌, not}
use Rattle.es_tree.specs.Tree.{Label, Fields, fields}
use Rattle.es_tree.specs.Views.{plain_field}
use Rattle.es_tree.specs.declared.ast_type.AstType.{AstType}
use Rattle.es_tree.specs.declared.node.Field.{Field as NodeField}
use Rattle.es_nodes.proofs.Anys.{or_true}
use Rattle.es_steps.specs.Slots.{holds_field, holds_fields}

both-false : (a b : Bool) → a ≡ false → b ≡ false → (a || b) ≡ false
both-false a b e d = rw (e, d) refl

right-true : (a b : Bool) → b ≡ true → (a || b) ≡ true
right-true a b h = rw h (or_true a)

left-false : (a b : Bool) → (a || b) ≡ false → a ≡ false
left-false false b h = refl
left-false true b h = h

right-false : (a b : Bool) → (a || b) ≡ false → b ≡ false
right-false false b h = h
right-false true b h = cc

abbrev pub holds_at : (AstType → Label → Fields → Bool) → Bool → NodeField → Bool
holds_at p closed f = not closed && holds_field p (plain_field f)

abbrev pub holds_of : (AstType → Label → Fields → Bool) → (ℕ → Bool) → List NodeField → Bool
holds_of p c xs = holds_fields p c (fields (map plain_field xs))

module _ (p : AstType → Label → Fields → Bool) where
  none-held-suc : (c : ℕ → Bool) (xs : List NodeField) (i : ℕ) (x : NodeField) → i < length xs → x ≡ get_or xs i x → holds_of p c (take i xs) ≡ false → holds_at p (c i) x ≡ false → holds_of p c (take (suc i) xs) ≡ false
  none-held-suc c [] i x l e h f = absurd (omega (arith, l))
  none-held-suc c (y ∷ ys) zero x l e h f = both-false (holds_at p (c zero) y) false (ap (holds_at p (c zero)) (sym e) ∙ f) refl
  none-held-suc c (y ∷ ys) (suc i) x l e h f =
      both-false (holds_at p (c zero) y) (holds_of p (λ j. c (suc j)) (take (suc i) ys)) (left-false (holds_at p (c zero) y) (holds_of p (λ j. c (suc j)) (take i ys)) h)
      (none-held-suc (λ j. c (suc j)) ys i x (omega (arith, l)) e (right-false (holds_at p (c zero) y) (holds_of p (λ j. c (suc j)) (take i ys)) h) f)

  pub none-held : (c : ℕ → Bool) (xs : List NodeField) (i : ℕ) (x : NodeField) → i < length xs → x ≡ get_or xs i x → holds_of p c (take i xs) ≡ false → holds_at p (c i) x ≡ false → holds_of p c (take (i + 1) xs) ≡ false
  none-held c xs i x l e h f = rw (add-one i) (none-held-suc c xs i x l e h f)

  pub one-held : (c : ℕ → Bool) (xs : List NodeField) (i : ℕ) (x : NodeField) → i < length xs → x ≡ get_or xs i x → holds_at p (c i) x ≡ true → holds_of p c xs ≡ true
  one-held c [] i x l e t = absurd (omega (arith, l))
  one-held c (y ∷ ys) zero x l e t = ap (λ b. b || holds_of p (λ j. c (suc j)) ys) (ap (holds_at p (c zero)) (sym e) ∙ t)
  one-held c (y ∷ ys) (suc i) x l e t = right-true (holds_at p (c zero) y) (holds_of p (λ j. c (suc j)) ys) (one-held (λ j. c (suc j)) ys i x (omega (arith, l)) e t)
