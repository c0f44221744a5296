-- Lists that are made one item after the other, where each item has become what it does by one context.
use Rattle.std.proofs.Common.{◌≡◌, ◌∙◌, ◌++◌, ◌∷◌, List, [], ap, append-nil, append_assoc, arith, length, refl, subst, sym, ℕ}
use Rattle.std.specs.Prelude.{◌&&◌, Bool, false, true}
use Rattle.es_tree.specs.Tree.{Tree, Trees, empty, ◌before◌, trees}
use Rattle.es_tree.specs.Words.{Text}
use Rattle.es_steps.specs.Nodes.{joined_trees}
use Rattle.es_using_rows.specs.Used.{Makes, plainly}
use Rattle.lower_using.specs.Parts.{BecomesBy}

pub and-left : (a b : Bool) → (a && b) ≡ true → a ≡ true
and-left true b h = refl
and-left false b h = h

pub and-right : (a b : Bool) → (a && b) ≡ true → b ≡ true
and-right true b h = h
and-right false b h = absurd (cc h)

pub trees-joined : (xs ys : List Tree) → trees (xs ++ ys) ≡ joined_trees (trees xs) (trees ys)
trees-joined [] ys = refl
trees-joined (x ∷ xs) ys = ap (λ ts. x before ts) (trees-joined xs ys)

-- what was made so far is what the items so far become, and the others pass the test
pub record SoFar (F : Makes → ℕ → Trees → Trees) (G : Trees → Bool) (c : Text) (all made rest : List Tree) : Type 0 where
  pub front : List Tree
  pub split : all ≡ front ++ rest
  pub becomes : BecomesBy c F (trees front) (trees made)
  pub left : G (trees rest) ≡ true

module _ (f : Makes → ℕ → Tree → Tree) (F : Makes → ℕ → Trees → Trees) (none : (m : Makes) (n : ℕ) → F m n empty ≡ empty) (step : (m : Makes) (n : ℕ) (t : Tree) (ts : Trees) → F m n (t before ts) ≡ (f m n t before F m n ts)) where
  one-more : (m : Makes) (n : ℕ) (xs : List Tree) (t : Tree) → F m n (trees (xs ++ t ∷ [])) ≡ joined_trees (F m n (trees xs)) (f m n t before empty)
  one-more m n [] t = step m n t empty ∙ (ap (λ ts. f m n t before ts) (none m n) ∙ ap (λ ts. joined_trees ts (f m n t before empty)) (sym (none m n)))
  one-more m n (x ∷ xs) t = step m n x (trees (xs ++ t ∷ [])) ∙ (ap (λ ts. f m n x before ts) (one-more m n xs t) ∙ ap (λ ts. joined_trees ts (f m n t before empty)) (sym (step m n x (trees xs))))

  becomes-more : (c : Text) (xs ys : List Tree) (x y : Tree) → BecomesBy c F (trees xs) (trees ys) → BecomesBy c f x y → BecomesBy c F (trees (xs ++ x ∷ [])) (trees (ys ++ y ∷ []))
  becomes-more c xs ys x y h k names n e =
      one-more (plainly names) n xs x ∙ (ap (λ ts. joined_trees ts (f (plainly names) n x before empty)) (h names n e) ∙ (ap (λ u. joined_trees (trees ys) (u before empty)) (k names n e) ∙ sym (trees-joined ys (y ∷ []))))

  module _ (g : Tree → Bool) (G : Trees → Bool) (goes : (t : Tree) (ts : Trees) → G (t before ts) ≡ (g t && G ts)) where
    pub so-far-none : (c : Text) (all made : List Tree) → made ≡ [] → G (trees all) ≡ true → SoFar F G c all made all
    so-far-none c all made is h = record { front = []; split = refl; becomes = λ names n e. none (plainly names) n ∙ ap trees (sym is); left = h }

    pub so-far-item : {c : Text} {all made rest : List Tree} (x : Tree) → SoFar F G c all made (x ∷ rest) → g x ≡ true
    so-far-item {rest = rest} x h = and-left (g x) (G (trees rest)) (sym (goes x (trees rest)) ∙ h.left)

    pub so-far-next : {c : Text} {all made made' rest : List Tree} (x y : Tree) → BecomesBy c f x y → made' ≡ made ++ y ∷ [] → SoFar F G c all made (x ∷ rest) → SoFar F G c all made' rest
    so-far-next {c} {all} {made} {made'} {rest} x y k is h = record {
      front = h.front ++ x ∷ [];
      split = h.split ∙ sym (append_assoc h.front (x ∷ []) rest);
      becomes = subst (λ ys. BecomesBy c F (trees (h.front ++ x ∷ [])) (trees ys)) (sym is) (becomes-more c h.front made x y h.becomes k);
      left = and-right (g x) (G (trees rest)) (sym (goes x (trees rest)) ∙ h.left);
    }

    pub so-far-all : {c : Text} {all made : List Tree} (rest : List Tree) → length rest ≡ 0 → SoFar F G c all made rest → BecomesBy c F (trees all) (trees made)
    so-far-all {c} {all} {made} [] is h = subst (λ ts. BecomesBy c F (trees ts) (trees made)) (sym (h.split ∙ append-nil h.front)) h.becomes
    so-far-all (t ∷ ts) is h = absurd (omega (arith, is))
