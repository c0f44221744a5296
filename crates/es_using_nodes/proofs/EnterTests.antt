-- Tests of the statements of a body, as the code makes them one after the other, and as they are defined.
use Rattle.std.proofs.Common.{◌≡◌, ◌∙◌, ◌+◌, ◌-◌, ◌<◌, ◌≤◌, ℕ, zero, suc, refl, ap, add-one, arith, sym, List, [], ◌∷◌, true, false, drop, get_or, length, subst, take}
use Rattle.std.specs.Prelude.{◌&&◌, ◌||◌, Bool}
use Rattle.std.specs.List.{list_any}
use Rattle.std.proofs.Math.Seq.{take-length}
use Rattle.std.proofs.lemmas.List.{length-drop}
use Rattle.es_tree.specs.Tree.{Tree, Trees, trees}
use Rattle.es_steps.specs.UsingBlocks.{has_using, is_using_node}
use Rattle.es_using_rows.specs.UsingPlaces.{all_enter, enters}

pub any-using : (ts : List Tree) → list_any is_using_node ts ≡ has_using (trees ts)
any-using [] = refl
any-using (t ∷ ts) = ap (λ b. is_using_node t || b) (any-using ts)

-- FUNCTIONS, each with the statements behind it

and-false : (a : Bool) → (a && false) ≡ false
and-false true = refl
and-false false = refl

rest_of : (ts : List Tree) (i : ℕ) → take (length ts - i) (drop i ts) ≡ drop i ts
rest_of ts i = let P : ℕ → Type 0 = λ n. take n (drop i ts) ≡ drop i ts in subst P (length-drop i ts) (take-length (drop i ts))

module _ (ps body : Trees) where
  -- one of them may not enter
  fails-onto : (ts : List Tree) (i : ℕ) (t : Tree) → i < length ts → t ≡ get_or ts i t → enters ps body t (trees (drop (suc i) ts)) ≡ false → all_enter ps body (trees ts) ≡ false
  fails-onto [] i t l e h = absurd (omega (arith, l))
  fails-onto (u ∷ ts) zero t l e h = ap (λ b. b && all_enter ps body (trees ts)) (ap (λ v. enters ps body v (trees ts)) (sym e) ∙ h)
  fails-onto (u ∷ ts) (suc i) t l e h = ap (λ b. enters ps body u (trees ts) && b) (fails-onto ts i t (omega (arith, l)) e h) ∙ and-false (enters ps body u (trees ts))

  -- the others decide, once the first do
  steps-onto : (ts : List Tree) (i : ℕ) (t : Tree) → i < length ts → t ≡ get_or ts i t → enters ps body t (trees (drop (suc i) ts)) ≡ true → all_enter ps body (trees (drop i ts)) ≡ all_enter ps body (trees (drop (suc i) ts))
  steps-onto [] i t l e h = absurd (omega (arith, l))
  steps-onto (u ∷ ts) zero t l e h = ap (λ b. b && all_enter ps body (trees ts)) (ap (λ v. enters ps body v (trees ts)) (sym e) ∙ h)
  steps-onto (u ∷ ts) (suc i) t l e h = steps-onto ts i t (omega (arith, l)) e h

  pub fails-at : (ts : List Tree) (i : ℕ) (t : Tree) → i < length ts → t ≡ get_or ts i t → enters ps body t (trees (take (length ts - (i + 1)) (drop (i + 1) ts))) ≡ false → all_enter ps body (trees ts) ≡ false
  fails-at ts i t l e h = fails-onto ts i t l e (rw (← add-one i, ← rest_of ts (i + 1)) h)

  pub steps-at : (ts : List Tree) (i : ℕ) (t : Tree) → i < length ts → t ≡ get_or ts i t → enters ps body t (trees (take (length ts - (i + 1)) (drop (i + 1) ts))) ≡ true → all_enter ps body (trees (drop i ts)) ≡ all_enter ps body (trees (drop (i + 1) ts))
  steps-at ts i t l e h = rw (add-one i) (steps-onto ts i t l e (rw (← add-one i, ← rest_of ts (i + 1)) h))

  -- none is left
  pub none-left : (ts : List Tree) (i : ℕ) → length ts ≤ i → all_enter ps body (trees (drop i ts)) ≡ true
  none-left [] zero l = refl
  none-left [] (suc i) l = refl
  none-left (t ∷ ts) zero l = absurd (omega (arith, l))
  none-left (t ∷ ts) (suc i) l = none-left ts i (omega (arith, l))
