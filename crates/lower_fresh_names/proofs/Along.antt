-- Walks along lists, with one part more at a time.
use Rattle.std.proofs.Common.{◌≡◌, ◌∙◌, ◌++◌, ◌+◌, ◌<◌, ◌≤◌, ◌∷◌, List, [], ap, arith, get_or, length, refl, set, subst, sym, take, ℕ}
use Rattle.std.proofs.lemmas.List.{get_or-set_other, length-take-le, take_all, take_more, take_more_set}
use Rattle.es_tree.specs.Tree.{Tree, Fields, done, ◌then◌, Field, empty, ◌before◌, trees}
use Rattle.es_tree.specs.Views.{plain_field, plain_fields}
use Rattle.es_tree.specs.declared.node.Field.{Field as NodeField}
use Rattle.es_scope.specs.declared.uids.UidGenerator.{UidGenerator}
use Rattle.es_steps.specs.Nodes.{joined_trees}
use Rattle.lower_fresh_names.specs.Walks.{Along, IsAlong, WalksAs}
use Rattle.lower_fresh_names.proofs.Walks.{walks-none, walks-then}

-- WHAT THE LOOP HAS LEFT from this place on is as it was

abbrev pub Untouched : {X : Type 0} → List X → List X → ℕ → Type 0
Untouched {X = X} first items i = (j : ℕ) (d : X) → i ≤ j → get_or items j d ≡ get_or first j d

untouched-more : {X : Type 0} (first items : List X) (i : ℕ) (y : X) → Untouched first items i → Untouched first (set items i y) (i + 1)
untouched-more first items i y h j d l = get_or-set_other items i j y d (λ e. absurd (omega (arith, e, l))) ∙ h j d (omega (arith, l))

-- AS FAR AS IT HAS COME

pub record SoFar {E T X : Type 0} (w : Along E T X) (a b : UidGenerator) (first items : List E) (i : ℕ) : Type 0 where
  pub count : length items ≡ length first
  pub untouched : Untouched first items i
  pub walks : WalksAs w.move_whole w.whole_fresh a b (w.whole (take i first)) (w.whole (take i items))

module _ {E T X : Type 0} (w : Along E T X) (is-along : IsAlong w) where
  part-more : (i : ℕ) (a b c : UidGenerator) (xs ys : List E) (x y : E) → length xs ≡ i → WalksAs w.move_whole w.whole_fresh a b (w.whole xs) (w.whole ys) → WalksAs (w.move_part i) (w.part_fresh i) b c (w.part x) (w.part y) → WalksAs w.move_whole w.whole_fresh a c (w.whole (xs ++ x ∷ [])) (w.whole (ys ++ y ∷ []))
  part-more i a b c xs ys x y count s s' =
      let here = subst (λ j. WalksAs (w.move_part j) (w.part_fresh j) b c (w.part x) (w.part y)) (sym count) s' in
      subst (λ us. WalksAs w.move_whole w.whole_fresh a c (w.whole (xs ++ x ∷ [])) us) (sym (is-along.added ys y))
      (walks-then w.move_whole w.whole_fresh (w.move_part (length xs)) (w.part_fresh (length xs)) w.move_whole w.whole_fresh w.with_part (w.whole (xs ++ x ∷ [])) (λ all n. is-along.more all n xs x) (λ in_use all n p q. is-along.more_fresh in_use all n xs x p q) s here)

  pub so-far-none : (a : UidGenerator) (xs : List E) → SoFar w a a xs xs 0
  so-far-none a xs = record { count = refl; untouched = λ j d l. refl; walks = walks-none w.move_whole w.whole_fresh a (w.whole []) (w.whole []) is-along.none is-along.none_fresh }

  pub so-far-next : (a b c : UidGenerator) (first items : List E) (i : ℕ) (x y : E) → i < length first → x ≡ get_or items i x → length (set items i y) ≡ length items → WalksAs (w.move_part i) (w.part_fresh i) b c (w.part x) (w.part y) → SoFar w a b first items i → SoFar w a c first (set items i y) (i + 1)
  so-far-next a b c first items i x y l is counted s h =
      let was : get_or first i x ≡ x = sym (h.untouched i x (omega arith)) ∙ sym is in
      let more = part-more i a b c (take i first) (take i items) x y (length-take-le i first (omega (arith, l))) h.walks s in
      let front : take i first ++ x ∷ [] ≡ take (i + 1) first = sym (take_more first i x l ∙ ap (λ z. take i first ++ z ∷ []) was) in
      let back : take i items ++ y ∷ [] ≡ take (i + 1) (set items i y) = sym (take_more_set items i y (omega (arith, l, h.count))) in
      record {
        count = counted ∙ h.count;
        untouched = untouched-more first items i y h.untouched;
        walks = subst (λ us. WalksAs w.move_whole w.whole_fresh a c (w.whole (take (i + 1) first)) (w.whole us)) back (subst (λ ts. WalksAs w.move_whole w.whole_fresh a c (w.whole ts) (w.whole (take i items ++ y ∷ []))) front more);
      }

  pub so-far-all : (a b : UidGenerator) (first items : List E) (i : ℕ) → length items ≤ i → SoFar w a b first items i → WalksAs w.move_whole w.whole_fresh a b (w.whole first) (w.whole items)
  so-far-all a b first items i l h =
      subst (λ us. WalksAs w.move_whole w.whole_fresh a b (w.whole first) (w.whole us)) (take_all i items l)
      (subst (λ ts. WalksAs w.move_whole w.whole_fresh a b (w.whole ts) (w.whole (take i items))) (take_all i first (omega (arith, l, h.count))) h.walks)

-- LISTS OF NODES, AND FIELDS, with one more

pub trees-added : (xs : List Tree) (x : Tree) → trees (xs ++ x ∷ []) ≡ joined_trees (trees xs) (x before empty)
trees-added [] x = refl
trees-added (y ∷ xs) x = ap (λ ts. y before ts) (trees-added xs x)

abbrev pub field_added : Fields → Field → Fields
field_added done g = g then done
field_added (f then fs) g = f then field_added fs g

pub fields-added : (xs : List NodeField) (x : NodeField) → plain_fields (xs ++ x ∷ []) ≡ field_added (plain_fields xs) (plain_field x)
fields-added [] x = refl
fields-added (y ∷ xs) x = ap (λ fs. plain_field y then fs) (fields-added xs x)
