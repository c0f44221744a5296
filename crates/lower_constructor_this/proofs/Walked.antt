-- The walk over a list of nodes and over the fields of a node: one more at a time.
use Rattle.std.proofs.Common.{◌≡◌, ◌∙◌, ◌++◌, ◌+◌, ◌<◌, ◌≤◌, ◌∷◌, Bool, List, [], ap, arith, get_or, length, map, refl, set, subst, suc, sym, take, ℕ}
use Rattle.std.proofs.lemmas.List.{get_or-set_other, length-set, length-take-le, map-append, take_all, take_more, take_more_set}
use Rattle.es_tree.specs.Tree.{Tree, node, Label, kind_of, label_of, fields_of, Fields, done, ◌then◌, Field, trees, ◌before◌}
use Rattle.es_tree.specs.Views.{plain_field, plain_fields}
use Rattle.es_tree.specs.Words.{Text}
use Rattle.es_tree.specs.declared.node.Field.{Field as NodeField}
use Rattle.es_set_this.specs.ConstructorThis.{set_here, set_this, set_this_among, set_this_by, set_this_in}
use Rattle.es_super_calls.specs.Constructors.{standing_in}
use Rattle.es_super_calls.specs.declared.standing.ClassStanding.{ClassStanding}
use Rattle.es_tree.specs.declared.ast_type.AstType.{AstType}
use Rattle.lower_constructor_this.specs.Parts.{set_at, standing_at}
use Rattle.lower_constructor_this.specs.declared.places.Standings.{Standings}

-- WHAT THE LOOP HAS LEFT from this place on is as it was

abbrev Untouched : {X : Type 0} → List X → List X → ℕ → Type 0
Untouched {X = X} first items i = (j : ℕ) (d : X) → i ≤ j → get_or items j d ≡ get_or first j d

untouched-more : {X : Type 0} (first items : List X) (i : ℕ) (y : X) → Untouched first items i → Untouched first (set items i y) (i + 1)
untouched-more first items i y h j d l = get_or-set_other items i j y d (λ e. absurd (omega (arith, e, l))) ∙ h j d (omega (arith, l))

-- LISTS

pub record ListSoFar (made : Text → Bool) (s : ClassStanding) (first items : List Tree) (i : ℕ) : Type 0 where
  pub count : length items ≡ length first
  pub untouched : Untouched first items i
  pub before_it : take i items ≡ map (set_this made s) (take i first)

pub list-none : (made : Text → Bool) (s : ClassStanding) (ts : List Tree) → ListSoFar made s ts ts 0
list-none made s ts = record { count = refl; untouched = λ j d l. refl; before_it = refl }

pub list-next : (made : Text → Bool) (s : ClassStanding) (first items : List Tree) (i : ℕ) (t u : Tree) → i < length items → t ≡ get_or items i t → u ≡ set_this made s t → ListSoFar made s first items i → ListSoFar made s first (set items i u) (i + 1)
list-next made s first items i t u l is now h =
    let was : get_or first i t ≡ t = sym (h.untouched i t (omega arith)) ∙ sym is in
    let front : take (i + 1) first ≡ take i first ++ t ∷ [] = take_more first i t (omega (arith, l, h.count)) ∙ ap (λ z. take i first ++ z ∷ []) was in
    record {
      count = length-set items i u ∙ h.count;
      untouched = untouched-more first items i u h.untouched;
      before_it = take_more_set items i u l ∙ ap (λ us. us ++ u ∷ []) h.before_it ∙ ap (λ z. map (set_this made s) (take i first) ++ z ∷ []) now
          ∙ sym (map-append (set_this made s) (take i first) (t ∷ [])) ∙ ap (map (set_this made s)) (sym front);
    }

trees-set : (made : Text → Bool) (s : ClassStanding) (ts : List Tree) → trees (map (set_this made s) ts) ≡ set_this_among made s (trees ts)
trees-set made s [] = refl
trees-set made s (t ∷ ts) = ap (λ us. set_this made s t before us) (trees-set made s ts)

pub list-all : (made : Text → Bool) (s : ClassStanding) (first items : List Tree) (i : ℕ) → length items ≤ i → ListSoFar made s first items i → trees items ≡ set_this_among made s (trees first)
list-all made s first items i l h =
    ap trees (sym (take_all i items l) ∙ h.before_it ∙ ap (map (set_this made s)) (take_all i first (omega (arith, l, h.count)))) ∙ trees-set made s first

-- FIELDS

abbrev added : Fields → Field → Fields
added done g = g then done
added (f then fs) g = f then added fs g

fields-added : (xs : List NodeField) (x : NodeField) → plain_fields (xs ++ x ∷ []) ≡ added (plain_fields xs) (plain_field x)
fields-added [] x = refl
fields-added (y ∷ xs) x = ap (λ fs. plain_field y then fs) (fields-added xs x)

in-more : (made : Text → Bool) (c : ℕ → ClassStanding) (xs : List NodeField) (x : NodeField) → set_this_in made c (plain_fields (xs ++ x ∷ [])) ≡ added (set_this_in made c (plain_fields xs)) (set_this_by made (c (length xs)) (plain_field x))
in-more made c [] x = refl
in-more made c (y ∷ xs) x = ap (λ fs. set_this_by made (c 0) (plain_field y) then fs) (in-more made (λ i. c (suc i)) xs x)

pub record FieldsSoFar (made : Text → Bool) (c : ℕ → ClassStanding) (first items : List NodeField) (i : ℕ) : Type 0 where
  pub count : length items ≡ length first
  pub untouched : Untouched first items i
  pub before_it : plain_fields (take i items) ≡ set_this_in made c (plain_fields (take i first))

pub fields-none : (made : Text → Bool) (c : ℕ → ClassStanding) (fs : List NodeField) → FieldsSoFar made c fs fs 0
fields-none made c fs = record { count = refl; untouched = λ j d l. refl; before_it = refl }

pub fields-next : (made : Text → Bool) (c : ℕ → ClassStanding) (s : ClassStanding) (first items : List NodeField) (i : ℕ) (x y : NodeField) → i < length items → x ≡ get_or items i x → s ≡ c i → plain_field y ≡ set_this_by made s (plain_field x) → FieldsSoFar made c first items i → FieldsSoFar made c first (set items i y) (i + 1)
fields-next made c s first items i x y l is at now h =
    let was : get_or first i x ≡ x = sym (h.untouched i x (omega arith)) ∙ sym is in
    let front : take (i + 1) first ≡ take i first ++ x ∷ [] = take_more first i x (omega (arith, l, h.count)) ∙ ap (λ z. take i first ++ z ∷ []) was in
    let place : s ≡ c (length (take i first)) = at ∙ ap c (sym (length-take-le i first (omega (arith, l, h.count)))) in
    record {
      count = length-set items i y ∙ h.count;
      untouched = untouched-more first items i y h.untouched;
      before_it = ap plain_fields (take_more_set items i y l) ∙ fields-added (take i items) y
          ∙ ap (λ fs. added fs (plain_field y)) h.before_it ∙ ap (λ f. added (set_this_in made c (plain_fields (take i first))) f) now
          ∙ ap (λ r. added (set_this_in made c (plain_fields (take i first))) (set_this_by made r (plain_field x))) place
          ∙ sym (in-more made c (take i first) x) ∙ ap (λ fs. set_this_in made c (plain_fields fs)) (sym front);
    }

pub fields-all : (made : Text → Bool) (c : ℕ → ClassStanding) (first items : List NodeField) (i : ℕ) → length items ≤ i → FieldsSoFar made c first items i → plain_fields items ≡ set_this_in made c (plain_fields first)
fields-all made c first items i l h =
    ap plain_fields (sym (take_all i items l)) ∙ h.before_it ∙ ap (λ fs. set_this_in made c (plain_fields fs)) (take_all i first (omega (arith, l, h.count)))

-- however the standings are told
told-alike : (made : Text → Bool) (c d : ℕ → ClassStanding) → ((i : ℕ) → c i ≡ d i) → (fs : Fields) → set_this_in made c fs ≡ set_this_in made d fs
told-alike made c d h done = refl
told-alike made c d h (f then fs) =
    ap (λ r. set_this_by made r f then set_this_in made (λ i. c (suc i)) fs) (h 0) ∙ ap (λ gs. set_this_by made (d 0) f then gs) (told-alike made (λ i. c (suc i)) (λ i. d (suc i)) (λ i. h (suc i)) fs)

-- A NODE, the fields of which were walked

pub whole : (made : Text → Bool) (s : ClassStanding) (k : AstType) (l : Label) (fs gs : Fields) (r : Standings) (t u : Tree) → node k l fs ≡ t → gs ≡ set_this_in made (standing_at r) fs → ((i : ℕ) → standing_at r i ≡ standing_in s (kind_of t) (label_of t) (fields_of t) i) → u ≡ set_at made s (node k l gs) → u ≡ set_this made s t
whole made s k l fs gs r t u is walked told h =
    let as-was : (i : ℕ) → standing_at r i ≡ standing_in s k l fs i = subst (λ v. (i : ℕ) → standing_at r i ≡ standing_in s (kind_of v) (label_of v) (fields_of v) i) (sym is) told in
    h ∙ ap (λ x. node k l (set_here made s k x)) (walked ∙ told-alike made (standing_at r) (standing_in s k l fs) as-was fs) ∙ ap (set_this made s) is
