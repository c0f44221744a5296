-- The lists and fields that are gone through, one more at a time.
use Rattle.std.proofs.Common.{◌≡◌, ◌∙◌, ◌++◌, ◌+◌, ◌<◌, ◌≤◌, ◌∷◌, Bool, List, [], ap, arith, drop, get_or, length, map, refl, set, slice_index_or, slice_set, suc, sym, take, zero, ℕ}
use Rattle.std.proofs.lemmas.List.{append-nil, drop_all, map-set, take_all}
use Rattle.std.proofs.lemmas.List.Edits.{map_over_more}
use Rattle.std.proofs.Math.ListN.{get_or-map}
use Rattle.es_tree.proofs.Sizes.{trees_size-within}
use Rattle.es_tree.specs.Tree.{Tree, Label, node, ◌then◌, Field, field_size, fields, fields_size, tree_size, trees, trees_size, ◌before◌}
use Rattle.es_tree.specs.Views.{plain_field, plain_fields}
use Rattle.es_tree.specs.declared.ast_type.AstType.{AstType}
use Rattle.es_tree.specs.declared.node.Field.{Field as NodeField}
use Rattle.es_tree.specs.declared.node.Field.TheVariants.{Many, Missing, One, Statements}
use Rattle.es_set_this.specs.ConstructorThis.{after_super, after_super_among, after_super_by, after_super_in, in_arguments}
use Rattle.lower_constructor_this.specs.Parts.{arguments_by}

-- what is left to go through is as it was
left-at : {X : Type 0} (f : X → X) (xs : List X) (i : ℕ) (d : X) → get_or (map f (take i xs) ++ drop i xs) i d ≡ get_or xs i d
left-at f [] zero d = refl
left-at f [] (suc i) d = refl
left-at f (x ∷ xs) zero d = refl
left-at f (x ∷ xs) (suc i) d = left-at f xs i d

all-over : {X : Type 0} (f : X → X) (xs : List X) (i : ℕ) → length xs ≤ i → map f (take i xs) ++ drop i xs ≡ map f xs
all-over f xs i l = ap (λ ys. map f ys ++ drop i xs) (take_all i xs l) ∙ ap (λ ys. map f xs ++ ys) (drop_all i xs l) ∙ append-nil (map f xs)

-- LISTS

abbrev pub ListPassed : Tree → List Tree → List Tree → ℕ → Type 0
ListPassed x first items i = items ≡ map (after_super x) (take i first) ++ drop i first

pub list-left : (x : Tree) (first items : List Tree) (i : ℕ) (t : Tree) → ListPassed x first items i → t ≡ get_or items i t → t ≡ get_or first i t
list-left x first items i t h is = is ∙ ap (λ ys. get_or ys i t) h ∙ left-at (after_super x) first i t

pub list-smaller : (x : Tree) (first items : List Tree) (i : ℕ) (t : Tree) → i < length first → ListPassed x first items i → t ≡ get_or items i t → tree_size t ≤ trees_size (trees first)
list-smaller x first items i t l h is = omega (arith, trees_size-within first i t l (list-left x first items i t h is))

pub list-more : (x : Tree) (first items : List Tree) (i : ℕ) (t u : Tree) → i < length first → ListPassed x first items i → t ≡ get_or items i t → u ≡ after_super x t → ListPassed x first (set items i u) (i + 1)
list-more x first items i t u l h is now = ap (set items i) now ∙ map_over_more (after_super x) first items i t l h is

trees-passed : (x : Tree) (ts : List Tree) → trees (map (after_super x) ts) ≡ after_super_among x (trees ts)
trees-passed x [] = refl
trees-passed x (t ∷ ts) = ap (λ us. after_super x t before us) (trees-passed x ts)

pub list-whole : (x : Tree) (first items : List Tree) (n : ℕ) → length first ≤ n → ListPassed x first items n → items ≡ map (after_super x) first
list-whole x first items n l h = h ∙ all-over (after_super x) first n l

pub list-all : (x : Tree) (first items : List Tree) (n : ℕ) → length first ≤ n → ListPassed x first items n → trees items ≡ after_super_among x (trees first)
list-all x first items n l h = ap trees (list-whole x first items n l h) ∙ trees-passed x first

-- FIELDS

abbrev pub FieldsPassed : Tree → Bool → List NodeField → List NodeField → ℕ → Type 0
FieldsPassed x lists first items i = map plain_field items ≡ map (after_super_by x lists) (take i (map plain_field first)) ++ drop i (map plain_field first)

plain-count : (fs : List NodeField) → length (map plain_field fs) ≡ length fs
plain-count [] = refl
plain-count (f ∷ fs) = ap suc (plain-count fs)

plain-at : (items : List NodeField) (i : ℕ) (y : NodeField) → y ≡ get_or items i y → plain_field y ≡ get_or (map plain_field items) i (plain_field y)
plain-at items i y is = ap plain_field is ∙ sym (get_or-map plain_field items i y)

field-within : (fs : List Field) (i : ℕ) (d : Field) → i < length fs → field_size (get_or fs i d) ≤ fields_size (fields fs)
field-within [] i d l = absurd (omega (arith, l))
field-within (f ∷ fs) zero d l = omega arith
field-within (f ∷ fs) (suc i) d l = omega (arith, field-within fs i d (omega (arith, l)))

pub fields-smaller : (x : Tree) (lists : Bool) (first items : List NodeField) (i : ℕ) (y : NodeField) → i < length first → FieldsPassed x lists first items i → y ≡ get_or items i y → field_size (plain_field y) ≤ fields_size (plain_fields first)
fields-smaller x lists first items i y l h is =
    let f = plain_field y in
    let was : f ≡ get_or (map plain_field first) i f = plain-at items i y is ∙ ap (λ ys. get_or ys i f) h ∙ left-at (after_super_by x lists) (map plain_field first) i f in
    omega (arith, ap field_size was, field-within (map plain_field first) i f (omega (arith, l, plain-count first)))

pub fields-more : (x : Tree) (lists : Bool) (first items : List NodeField) (i : ℕ) (y z : NodeField) → i < length first → FieldsPassed x lists first items i → y ≡ get_or items i y → plain_field z ≡ after_super_by x lists (plain_field y)
    → FieldsPassed x lists first (set items i z) (i + 1)
fields-more x lists first items i y z l h is now =
    map-set plain_field items i z ∙ ap (set (map plain_field items) i) now
    ∙ map_over_more (after_super_by x lists) (map plain_field first) (map plain_field items) i (plain_field y) (omega (arith, l, plain-count first)) h (plain-at items i y is)

fields-passed : (x : Tree) (lists : Bool) (fs : List Field) → fields (map (after_super_by x lists) fs) ≡ after_super_in x lists (fields fs)
fields-passed x lists [] = refl
fields-passed x lists (f ∷ fs) = ap (λ gs. after_super_by x lists f then gs) (fields-passed x lists fs)

pub fields-all : (x : Tree) (lists : Bool) (first items : List NodeField) (i : ℕ) → length first ≤ i → FieldsPassed x lists first items i → plain_fields items ≡ after_super_in x lists (plain_fields first)
fields-all x lists first items i l h =
    ap fields (h ∙ all-over (after_super_by x lists) (map plain_field first) i (omega (arith, l, plain-count first))) ∙ fields-passed x lists (map plain_field first)

-- THE ARGUMENTS of a statement

pub arguments-gone : (x : Tree) (k : AstType) (l : Label) (fs : List NodeField) (f g : NodeField) → f ≡ slice_index_or fs 0 f → plain_field g ≡ arguments_by x (plain_field f) → node k l (plain_fields (slice_set fs 0 g)) ≡ in_arguments x (node k l (plain_fields fs))
arguments-gone x k l [] f g at h = refl
arguments-gone x k l (One (node j m hs) ∷ fs) f g at h = ap (λ y. node k l (y then plain_fields fs)) (h ∙ ap (λ y. arguments_by x (plain_field y)) at)
arguments-gone x k l (Missing ∷ fs) f g at h = ap (λ y. node k l (y then plain_fields fs)) (h ∙ ap (λ y. arguments_by x (plain_field y)) at)
arguments-gone x k l (Many ts ∷ fs) f g at h = ap (λ y. node k l (y then plain_fields fs)) (h ∙ ap (λ y. arguments_by x (plain_field y)) at)
arguments-gone x k l (Statements ts ∷ fs) f g at h = ap (λ y. node k l (y then plain_fields fs)) (h ∙ ap (λ y. arguments_by x (plain_field y)) at)
