-- The walk over a list of nodes and over the fields of a node: one more at a time.
use Rattle.std.proofs.Common.{◌≡◌, ◌∙◌, ◌++◌, ◌+◌, ◌<◌, ◌≤◌, ◌∷◌, List, [], ap, arith, get_or, length, refl, set, subst, suc, sym, take, ℕ}
use Rattle.std.proofs.lemmas.List.{get_or-set_other, length-take-le, take_all, take_more, take_more_set}
use Rattle.es_tree.specs.Tree.{Tree, Fields, done, ◌then◌, Field, empty, ◌before◌, trees}
use Rattle.es_tree.specs.Views.{plain_field, plain_fields}
use Rattle.es_tree.specs.declared.node.Field.{Field as NodeField}
use Rattle.es_scope.specs.declared.uids.UidGenerator.{UidGenerator}
use Rattle.es_steps.specs.Nodes.{joined_trees}
use Rattle.es_using_rows.specs.UsingPlaces.{standing_in}
use Rattle.es_using_rows.specs.Used.{Makes, used, used_by, used_in}
use Rattle.es_using_rows.specs.declared.standing.Standing.{Standing}
use Rattle.es_tree.specs.declared.ast_type.AstType.{AstType}
use Rattle.lower_using.specs.Parts.{walked, walked_among, walked_by, walked_in}
use Rattle.lower_using.specs.Uses.{UsesAs}
use Rattle.lower_using.proofs.Becomes.{trees-joined}
use Rattle.lower_using.proofs.Using.{uses-none, uses-then}

-- WHAT THE LOOP HAS LEFT from this place on is as it was

abbrev pub Untouched : {X : Type 0} → List X → List X → ℕ → Type 0
Untouched {X = X} first items i = (j : ℕ) (d : X) → i ≤ j → get_or items j d ≡ get_or first j d

untouched-more : {X : Type 0} (first items : List X) (i : ℕ) (y : X) → Untouched first items i → Untouched first (set items i y) (i + 1)
untouched-more first items i y h j d l = get_or-set_other items i j y d (λ e. absurd (omega (arith, e, l))) ∙ h j d (omega (arith, l))

-- ONE NODE MORE

among-more : (s : Standing) (m : Makes) (n : ℕ) (xs : List Tree) (t : Tree) → walked_among s m n (trees (xs ++ t ∷ [])) ≡ ((walked s m (walked_among s m n (trees xs)).0 t).0, joined_trees (walked_among s m n (trees xs)).1 ((walked s m (walked_among s m n (trees xs)).0 t).1 before empty))
among-more s m n [] t = refl
among-more s m n (x ∷ xs) t = ap (λ r. (r.0, (used m s n x).1 before r.1)) (among-more s m (used m s n x).0 xs t)

list-more : (s : Standing) (a b c : UidGenerator) (xs ys : List Tree) (t u : Tree) → UsesAs (walked_among s) a b (trees xs) (trees ys) → UsesAs (walked s) b c t u → UsesAs (walked_among s) a c (trees (xs ++ t ∷ [])) (trees (ys ++ u ∷ []))
list-more s a b c xs ys t u h h' = subst (λ us. UsesAs (walked_among s) a c (trees (xs ++ t ∷ [])) us) (sym (trees-joined ys (u ∷ []))) (uses-then (walked_among s) (walked s) (walked_among s) (λ us v. joined_trees us (v before empty)) (trees (xs ++ t ∷ [])) (λ m n. among-more s m n xs t) h h')

pub record ListSoFar (s : Standing) (a b : UidGenerator) (first items : List Tree) (i : ℕ) : Type 0 where
  pub count : length items ≡ length first
  pub untouched : Untouched first items i
  pub becomes : UsesAs (walked_among s) a b (trees (take i first)) (trees (take i items))

pub list-none : (s : Standing) (a : UidGenerator) (xs : List Tree) → ListSoFar s a a xs xs 0
list-none s a xs = record { count = refl; untouched = λ j d l. refl; becomes = uses-none (walked_among s) a empty empty (λ m n. refl) }

pub list-next : (s : Standing) (a b c : UidGenerator) (first items : List Tree) (i : ℕ) (x u : Tree) → i < length first → x ≡ get_or items i x → length (set items i u) ≡ length items → UsesAs (walked s) b c x u → ListSoFar s a b first items i → ListSoFar s a c first (set items i u) (i + 1)
list-next s a b c first items i x u l is counted k h =
    let was : get_or first i x ≡ x = sym (h.untouched i x (omega arith)) ∙ sym is in
    let more = list-more s a b c (take i first) (take i items) x u h.becomes k in
    let front : take i first ++ x ∷ [] ≡ take (i + 1) first = sym (take_more first i x l ∙ ap (λ y. take i first ++ y ∷ []) was) in
    let back : take i items ++ u ∷ [] ≡ take (i + 1) (set items i u) = sym (take_more_set items i u (omega (arith, l, h.count))) in
    record {
      count = counted ∙ h.count;
      untouched = untouched-more first items i u h.untouched;
      becomes = subst (λ us. UsesAs (walked_among s) a c (trees (take (i + 1) first)) (trees us)) back (subst (λ ts. UsesAs (walked_among s) a c (trees ts) (trees (take i items ++ u ∷ []))) front more);
    }

pub list-all : (s : Standing) (a b : UidGenerator) (first items : List Tree) (i : ℕ) → length items ≤ i → ListSoFar s a b first items i → UsesAs (walked_among s) a b (trees first) (trees items)
list-all s a b first items i l h =
    subst (λ us. UsesAs (walked_among s) a b (trees first) (trees us)) (take_all i items l) (subst (λ ts. UsesAs (walked_among s) a b (trees ts) (trees (take i items))) (take_all i first (omega (arith, l, h.count))) h.becomes)

-- ONE FIELD MORE

abbrev added : Fields → Field → Fields
added done g = g then done
added (f then fs) g = f then added fs g

fields-added : (xs : List NodeField) (x : NodeField) → plain_fields (xs ++ x ∷ []) ≡ added (plain_fields xs) (plain_field x)
fields-added [] x = refl
fields-added (y ∷ xs) x = ap (λ fs. plain_field y then fs) (fields-added xs x)

in-more : (c : ℕ → Standing) (m : Makes) (n : ℕ) (xs : List NodeField) (x : NodeField) → used_in m c n (plain_fields (xs ++ x ∷ [])) ≡ ((used_by m (c (length xs)) (used_in m c n (plain_fields xs)).0 (plain_field x)).0, added (used_in m c n (plain_fields xs)).1 (used_by m (c (length xs)) (used_in m c n (plain_fields xs)).0 (plain_field x)).1)
in-more c m n [] x = refl
in-more c m n (y ∷ xs) x = ap (λ r. (r.0, (used_by m (c 0) n (plain_field y)).1 then r.1)) (in-more (λ i. c (suc i)) m (used_by m (c 0) n (plain_field y)).0 xs x)

fields-more : (k : AstType) (a b c : UidGenerator) (xs ys : List NodeField) (x y : NodeField) → UsesAs (walked_in k) a b (plain_fields xs) (plain_fields ys) → UsesAs (walked_by (standing_in k (length xs))) b c (plain_field x) (plain_field y) → UsesAs (walked_in k) a c (plain_fields (xs ++ x ∷ [])) (plain_fields (ys ++ y ∷ []))
fields-more k a b c xs ys x y h h' = subst (λ gs. UsesAs (walked_in k) a c (plain_fields (xs ++ x ∷ [])) gs) (sym (fields-added ys y)) (uses-then (walked_in k) (walked_by (standing_in k (length xs))) (walked_in k) added (plain_fields (xs ++ x ∷ [])) (λ m n. in-more (standing_in k) m n xs x) h h')

pub record FieldsSoFar (k : AstType) (a b : UidGenerator) (first items : List NodeField) (i : ℕ) : Type 0 where
  pub count : length items ≡ length first
  pub untouched : Untouched first items i
  pub becomes : UsesAs (walked_in k) a b (plain_fields (take i first)) (plain_fields (take i items))

pub fields-none : (k : AstType) (a : UidGenerator) (xs : List NodeField) → FieldsSoFar k a a xs xs 0
fields-none k a xs = record { count = refl; untouched = λ j d l. refl; becomes = uses-none (walked_in k) a done done (λ m n. refl) }

pub fields-next : (k : AstType) (s : Standing) (a b c : UidGenerator) (first items : List NodeField) (i : ℕ) (x y : NodeField) → i < length first → x ≡ get_or items i x → length (set items i y) ≡ length items → s ≡ standing_in k i → UsesAs (walked_by s) b c (plain_field x) (plain_field y) → FieldsSoFar k a b first items i → FieldsSoFar k a c first (set items i y) (i + 1)
fields-next k s a b c first items i x y l is counted at p h =
    let place : s ≡ standing_in k (length (take i first)) = at ∙ ap (λ j. standing_in k j) (sym (length-take-le i first (omega (arith, l)))) in
    let was : get_or first i x ≡ x = sym (h.untouched i x (omega arith)) ∙ sym is in
    let more = fields-more k a b c (take i first) (take i items) x y h.becomes (subst (λ r. UsesAs (walked_by r) b c (plain_field x) (plain_field y)) place p) in
    let front : take i first ++ x ∷ [] ≡ take (i + 1) first = sym (take_more first i x l ∙ ap (λ z. take i first ++ z ∷ []) was) in
    let back : take i items ++ y ∷ [] ≡ take (i + 1) (set items i y) = sym (take_more_set items i y (omega (arith, l, h.count))) in
    record {
      count = counted ∙ h.count;
      untouched = untouched-more first items i y h.untouched;
      becomes = subst (λ gs. UsesAs (walked_in k) a c (plain_fields (take (i + 1) first)) (plain_fields gs)) back (subst (λ fs. UsesAs (walked_in k) a c (plain_fields fs) (plain_fields (take i items ++ y ∷ []))) front more);
    }

pub fields-all : (k : AstType) (a b : UidGenerator) (first items : List NodeField) (i : ℕ) → length items ≤ i → FieldsSoFar k a b first items i → UsesAs (walked_in k) a b (plain_fields first) (plain_fields items)
fields-all k a b first items i l h =
    subst (λ gs. UsesAs (walked_in k) a b (plain_fields first) (plain_fields gs)) (take_all i items l) (subst (λ fs. UsesAs (walked_in k) a b (plain_fields fs) (plain_fields (take i items))) (take_all i first (omega (arith, l, h.count))) h.becomes)
