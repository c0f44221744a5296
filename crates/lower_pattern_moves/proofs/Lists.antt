-- The walk over a list of nodes and over the fields of a node: one more at a time.
use Rattle.std.proofs.Common.{◌≡◌, ◌∙◌, ◌++◌, ◌+◌, ◌<◌, ◌≤◌, ◌∷◌, List, [], ap, arith, get_or, length, refl, set, subst, sym, take, ℕ}
use Rattle.std.proofs.lemmas.List.{get_or-set_other, take_all, take_more, take_more_set}
use Rattle.es_tree.specs.Tree.{Tree, Fields, done, ◌then◌, Field, empty, ◌before◌, trees}
use Rattle.es_tree.specs.Views.{plain_field, plain_fields}
use Rattle.es_tree.specs.declared.node.Field.{Field as NodeField}
use Rattle.es_scope.specs.declared.uids.UidGenerator.{UidGenerator}
use Rattle.es_steps.specs.Nodes.{joined_trees}
use Rattle.es_pattern_moves.specs.Moved.{Makes, moved, moved_among, moved_by, moved_in}
use Rattle.lower_pattern_moves.specs.Moves.{MovesAs}
use Rattle.lower_pattern_moves.proofs.Moving.{moves-none, moves-then}

-- WHAT THE LOOP HAS LEFT from this place on is as it was

abbrev pub Untouched : {X : Type 0} → List X → List X → ℕ → Type 0
Untouched {X = X} first items i = (j : ℕ) (d : X) → i ≤ j → get_or items j d ≡ get_or first j d

untouched-more : {X : Type 0} (first items : List X) (i : ℕ) (y : X) → Untouched first items i → Untouched first (set items i y) (i + 1)
untouched-more first items i y h j d l = get_or-set_other items i j y d (λ e. absurd (omega (arith, e, l))) ∙ h j d (omega (arith, l))

-- ONE NODE MORE

pub trees-joined : (xs ys : List Tree) → trees (xs ++ ys) ≡ joined_trees (trees xs) (trees ys)
trees-joined [] ys = refl
trees-joined (x ∷ xs) ys = ap (λ ts. x before ts) (trees-joined xs ys)

among-more : (m : Makes) (n : ℕ) (xs : List Tree) (t : Tree) → moved_among m n (trees (xs ++ t ∷ [])) ≡ ((moved m (moved_among m n (trees xs)).0 t).0, joined_trees (moved_among m n (trees xs)).1 ((moved m (moved_among m n (trees xs)).0 t).1 before empty))
among-more m n [] t = refl
among-more m n (x ∷ xs) t = ap (λ r. (r.0, (moved m n x).1 before r.1)) (among-more m (moved m n x).0 xs t)

list-more : (a b c : UidGenerator) (xs ys : List Tree) (t u : Tree) → MovesAs moved_among a b (trees xs) (trees ys) → MovesAs moved b c t u → MovesAs moved_among a c (trees (xs ++ t ∷ [])) (trees (ys ++ u ∷ []))
list-more a b c xs ys t u s s' = subst (λ us. MovesAs moved_among a c (trees (xs ++ t ∷ [])) us) (sym (trees-joined ys (u ∷ []))) (moves-then moved_among moved moved_among (λ us v. joined_trees us (v before empty)) (trees (xs ++ t ∷ [])) (λ m n. among-more m n xs t) s s')

pub record ListSoFar (a b : UidGenerator) (first items : List Tree) (i : ℕ) : Type 0 where
  pub count : length items ≡ length first
  pub untouched : Untouched first items i
  pub moves : MovesAs moved_among a b (trees (take i first)) (trees (take i items))

pub list-none : (a : UidGenerator) (xs : List Tree) → ListSoFar a a xs xs 0
list-none a xs = record { count = refl; untouched = λ j d l. refl; moves = moves-none moved_among a empty empty (λ m n. refl) }

pub list-next : (a b c : UidGenerator) (first items : List Tree) (i : ℕ) (x u : Tree) → i < length first → x ≡ get_or items i x → length (set items i u) ≡ length items → MovesAs moved b c x u → ListSoFar a b first items i → ListSoFar a c first (set items i u) (i + 1)
list-next a b c first items i x u l is counted s h =
    let was : get_or first i x ≡ x = sym (h.untouched i x (omega arith)) ∙ sym is in
    let more = list-more a b c (take i first) (take i items) x u h.moves s in
    let front : take i first ++ x ∷ [] ≡ take (i + 1) first = sym (take_more first i x l ∙ ap (λ y. take i first ++ y ∷ []) was) in
    let back : take i items ++ u ∷ [] ≡ take (i + 1) (set items i u) = sym (take_more_set items i u (omega (arith, l, h.count))) in
    record {
      count = counted ∙ h.count;
      untouched = untouched-more first items i u h.untouched;
      moves = subst (λ us. MovesAs moved_among a c (trees (take (i + 1) first)) (trees us)) back (subst (λ ts. MovesAs moved_among a c (trees ts) (trees (take i items ++ u ∷ []))) front more);
    }

pub list-all : (a b : UidGenerator) (first items : List Tree) (i : ℕ) → length items ≤ i → ListSoFar a b first items i → MovesAs moved_among a b (trees first) (trees items)
list-all a b first items i l h =
    subst (λ us. MovesAs moved_among a b (trees first) (trees us)) (take_all i items l) (subst (λ ts. MovesAs moved_among a b (trees ts) (trees (take i items))) (take_all i first (omega (arith, l, h.count))) h.moves)

-- ONE FIELD MORE

abbrev added : Fields → Field → Fields
added done g = g then done
added (f then fs) g = f then added fs g

fields-added : (xs : List NodeField) (x : NodeField) → plain_fields (xs ++ x ∷ []) ≡ added (plain_fields xs) (plain_field x)
fields-added [] x = refl
fields-added (y ∷ xs) x = ap (λ fs. plain_field y then fs) (fields-added xs x)

in-more : (m : Makes) (n : ℕ) (xs : List NodeField) (x : NodeField) → moved_in m n (plain_fields (xs ++ x ∷ [])) ≡ ((moved_by m (moved_in m n (plain_fields xs)).0 (plain_field x)).0, added (moved_in m n (plain_fields xs)).1 (moved_by m (moved_in m n (plain_fields xs)).0 (plain_field x)).1)
in-more m n [] x = refl
in-more m n (y ∷ xs) x = ap (λ r. (r.0, (moved_by m n (plain_field y)).1 then r.1)) (in-more m (moved_by m n (plain_field y)).0 xs x)

fields-more : (a b c : UidGenerator) (xs ys : List NodeField) (x y : NodeField) → MovesAs moved_in a b (plain_fields xs) (plain_fields ys) → MovesAs moved_by b c (plain_field x) (plain_field y) → MovesAs moved_in a c (plain_fields (xs ++ x ∷ [])) (plain_fields (ys ++ y ∷ []))
fields-more a b c xs ys x y s s' = subst (λ gs. MovesAs moved_in a c (plain_fields (xs ++ x ∷ [])) gs) (sym (fields-added ys y)) (moves-then moved_in moved_by moved_in added (plain_fields (xs ++ x ∷ [])) (λ m n. in-more m n xs x) s s')

pub record FieldsSoFar (a b : UidGenerator) (first items : List NodeField) (i : ℕ) : Type 0 where
  pub count : length items ≡ length first
  pub untouched : Untouched first items i
  pub moves : MovesAs moved_in a b (plain_fields (take i first)) (plain_fields (take i items))

pub fields-none : (a : UidGenerator) (xs : List NodeField) → FieldsSoFar a a xs xs 0
fields-none a xs = record { count = refl; untouched = λ j d l. refl; moves = moves-none moved_in a done done (λ m n. refl) }

pub fields-next : (a b c : UidGenerator) (first items : List NodeField) (i : ℕ) (x y : NodeField) → i < length first → x ≡ get_or items i x → length (set items i y) ≡ length items → MovesAs moved_by b c (plain_field x) (plain_field y) → FieldsSoFar a b first items i → FieldsSoFar a c first (set items i y) (i + 1)
fields-next a b c first items i x y l is counted s h =
    let was : get_or first i x ≡ x = sym (h.untouched i x (omega arith)) ∙ sym is in
    let more = fields-more a b c (take i first) (take i items) x y h.moves s in
    let front : take i first ++ x ∷ [] ≡ take (i + 1) first = sym (take_more first i x l ∙ ap (λ z. take i first ++ z ∷ []) was) in
    let back : take i items ++ y ∷ [] ≡ take (i + 1) (set items i y) = sym (take_more_set items i y (omega (arith, l, h.count))) in
    record {
      count = counted ∙ h.count;
      untouched = untouched-more first items i y h.untouched;
      moves = subst (λ gs. MovesAs moved_in a c (plain_fields (take (i + 1) first)) (plain_fields gs)) back (subst (λ fs. MovesAs moved_in a c (plain_fields fs) (plain_fields (take i items ++ y ∷ []))) front more);
    }

pub fields-all : (a b : UidGenerator) (first items : List NodeField) (i : ℕ) → length items ≤ i → FieldsSoFar a b first items i → MovesAs moved_in a b (plain_fields first) (plain_fields items)
fields-all a b first items i l h =
    subst (λ gs. MovesAs moved_in a b (plain_fields first) (plain_fields gs)) (take_all i items l) (subst (λ fs. MovesAs moved_in a b (plain_fields fs) (plain_fields (take i items))) (take_all i first (omega (arith, l, h.count))) h.moves)
