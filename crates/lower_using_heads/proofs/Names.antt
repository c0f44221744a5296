-- Names by their numbers, as walks have them and as they are defined.
use Rattle.std.proofs.Common.{◌≡◌, ◌∙◌, Bool, List, [], ◌∷◌, ap, refl, subst, suc, sym, zero, ℕ}
use Rattle.std.specs.Prelude.{◌||◌, bytes_eq}
use Rattle.es_tree.specs.Fresh.{IsFreshName}
use Rattle.es_tree.specs.Words.{Text}
use Rattle.es_pattern_moves.specs.Moved.{name_of}
use Rattle.es_using_heads.specs.Heads.{with_first}
use Rattle.lower_fresh_names.specs.Walks.{name_at, with_names}
use Rattle.lower_fresh_names.proofs.Walks.{same-fresh}

pub name-same : (names : List Text) (n : ℕ) → name_of names n ≡ name_at names n
name-same [] n = refl
name-same (x ∷ xs) zero = refl
name-same (x ∷ xs) (suc n) = name-same xs n

first-same : (names : List Text) (n : ℕ) (in_use : Text → Bool) (y : Text) → with_names names n in_use y ≡ with_first names n in_use y
first-same names zero in_use y = refl
first-same names (suc n) in_use y = ap (λ b. b || bytes_eq (name_at names n) y) (first-same names n in_use y) ∙ ap (λ x. with_first names n in_use y || bytes_eq x y) (sym (name-same names n))

-- the name of this number is fresh
pub fresh-at : (in_use : Text → Bool) (names : List Text) (n : ℕ) (base x : Text) → name_at names n ≡ x → IsFreshName (with_names names n in_use) base x → IsFreshName (with_first names n in_use) base (name_of names n)
fresh-at in_use names n base x e h = subst (IsFreshName (with_first names n in_use) base) (sym (name-same names n ∙ e)) (same-fresh (with_names names n in_use) (with_first names n in_use) base x (first-same names n in_use) h)
