-- A walk that changes the parts of a list in their place, one after the other.
use Rattle.std.proofs.Common.{◌≡◌, ◌∙◌, ◌++◌, ◌+◌, ◌<◌, ◌≤◌, ◌∷◌, List, [], ap, arith, get_or, length, map, refl, set, sym, take, ℕ}
use Rattle.std.proofs.lemmas.List.{get_or-set_other, length-set, map-append, take_all, take_more, take_more_set}
use Rattle.es_tree.specs.Tree.{Tree, Field, fields, ◌then◌, trees, ◌before◌}
use Rattle.es_tree.specs.declared.helper.Helper.{Helper}
use Rattle.es_helper_calls.specs.HelperCalls.{calling, calling_among, calling_by, calling_in}

-- what is left from this place on is as it was
abbrev Untouched : {X : Type 0} → List X → List X → ℕ → Type 0
Untouched {X = X} first items i = (j : ℕ) (d : X) → i ≤ j → get_or items j d ≡ get_or first j d

untouched-more : {X : Type 0} (first items : List X) (i : ℕ) (y : X) → Untouched first items i → Untouched first (set items i y) (i + 1)
untouched-more first items i y h j d l = get_or-set_other items i j y d (λ e. absurd (omega (arith, e, l))) ∙ h j d (omega (arith, l))

-- The items before this place, as they are seen, are those that stood there first, changed.
pub record Changed {X Y : Type 0} (seen : X → Y) (change : Y → Y) (first items : List X) (i : ℕ) : Type 0 where
  pub count : length items ≡ length first
  pub untouched : Untouched first items i
  pub before_it : map seen (take i items) ≡ map change (map seen (take i first))

pub changed-none : {X Y : Type 0} (seen : X → Y) (change : Y → Y) (xs : List X) → Changed seen change xs xs 0
changed-none seen change xs = record { count = refl; untouched = λ j d l. refl; before_it = refl }

pub changed-next : {X Y : Type 0} (seen : X → Y) (change : Y → Y) (first items : List X) (i : ℕ) (x y : X) → i < length items → x ≡ get_or items i x → seen y ≡ change (seen x) → Changed seen change first items i → Changed seen change first (set items i y) (i + 1)
changed-next seen change first items i x y l is now h =
    let was : get_or first i x ≡ x = sym (h.untouched i x (omega arith)) ∙ sym is in
    let front : take (i + 1) first ≡ take i first ++ x ∷ [] = take_more first i x (omega (arith, l, h.count)) ∙ ap (λ z. take i first ++ z ∷ []) was in
    record {
      count = length-set items i y ∙ h.count;
      untouched = untouched-more first items i y h.untouched;
      before_it = ap (map seen) (take_more_set items i y l) ∙ map-append seen (take i items) (y ∷ [])
          ∙ ap (λ ys. ys ++ seen y ∷ []) h.before_it ∙ ap (λ z. map change (map seen (take i first)) ++ z ∷ []) now
          ∙ sym (map-append change (map seen (take i first)) (seen x ∷ [])) ∙ ap (map change) (sym (map-append seen (take i first) (x ∷ []))) ∙ ap (λ zs. map change (map seen zs)) (sym front);
    }

pub changed-all : {X Y : Type 0} (seen : X → Y) (change : Y → Y) (first items : List X) (i : ℕ) → length items ≤ i → Changed seen change first items i → map seen items ≡ map change (map seen first)
changed-all seen change first items i l h =
    ap (map seen) (sym (take_all i items l)) ∙ h.before_it ∙ ap (λ zs. map change (map seen zs)) (take_all i first (omega (arith, l, h.count)))

-- AS FIELDS AND AS TREES

pub fields-called : (c : Helper → Tree) (fs : List Field) → fields (map (calling_by c) fs) ≡ calling_in c (fields fs)
fields-called c [] = refl
fields-called c (f ∷ fs) = ap (λ gs. calling_by c f then gs) (fields-called c fs)

pub trees-called : (c : Helper → Tree) (ts : List Tree) → trees (map (calling c) ts) ≡ calling_among c (trees ts)
trees-called c [] = refl
trees-called c (t ∷ ts) = ap (λ us. calling c t before us) (trees-called c ts)
