-- A walk along a list: what it has left from a place on is as it was, and what is before that place has become of what stood there.
use Rattle.std.proofs.Common.{◌≡◌, ◌∙◌, ◌++◌, ◌+◌, ◌<◌, ◌≤◌, ◌∷◌, List, [], ap, arith, get_or, length, refl, set, subst, sym, take, ℕ}
use Rattle.std.proofs.lemmas.List.{get_or-set_other, length-set, length-take-le, take_all, take_more, take_more_set}
use Rattle.lower_fresh_names.proofs.Along.{Untouched}

untouched-more : {X : Type 0} (first items : List X) (i : ℕ) (y : X) → Untouched first items i → Untouched first (set items i y) (i + 1)
untouched-more first items i y h j d l = get_or-set_other items i j y d (λ e. absurd (omega (arith, e, l))) ∙ h j d (omega (arith, l))

pub record SoFar {X : Type 0} (Walks : List X → List X → Type 0) (first items : List X) (i : ℕ) : Type 0 where
  pub count : length items ≡ length first
  pub untouched : Untouched first items i
  pub walks : Walks (take i first) (take i items)

pub so-far-none : {X : Type 0} (Walks : List X → List X → Type 0) (xs : List X) → Walks [] [] → SoFar Walks xs xs 0
so-far-none Walks xs h = record { count = refl; untouched = λ j d l. refl; walks = h }

-- what stands at this place is what stood there first
pub so-far-same : {X : Type 0} (Walks : List X → List X → Type 0) (first items : List X) (i : ℕ) (x : X) → SoFar Walks first items i → x ≡ get_or items i x → x ≡ get_or first i x
so-far-same Walks first items i x h is = is ∙ h.untouched i x (omega arith)

pub so-far-next : {X : Type 0} (Walks Further : List X → List X → Type 0) (first items : List X) (i : ℕ) (x y : X) → i < length first → x ≡ get_or items i x → (length (take i first) ≡ i → Walks (take i first) (take i items) → Further (take i first ++ x ∷ []) (take i items ++ y ∷ [])) → SoFar Walks first items i → SoFar Further first (set items i y) (i + 1)
so-far-next Walks Further first items i x y l is more h =
    let front : take i first ++ x ∷ [] ≡ take (i + 1) first = sym (take_more first i x l ∙ ap (λ z. take i first ++ z ∷ []) (sym (so-far-same Walks first items i x h is))) in
    let back : take i items ++ y ∷ [] ≡ take (i + 1) (set items i y) = sym (take_more_set items i y (omega (arith, l, h.count))) in
    record {
      count = length-set items i y ∙ h.count;
      untouched = untouched-more first items i y h.untouched;
      walks = subst (Further (take (i + 1) first)) back (subst (λ xs. Further xs (take i items ++ y ∷ [])) front (more (length-take-le i first (omega (arith, l))) h.walks));
    }

pub so-far-all : {X : Type 0} (Walks : List X → List X → Type 0) (first items : List X) (i : ℕ) → length items ≤ i → SoFar Walks first items i → Walks first items
so-far-all Walks first items i l h = subst (Walks first) (take_all i items l) (subst (λ xs. Walks xs (take i items)) (take_all i first (omega (arith, l, h.count))) h.walks)
