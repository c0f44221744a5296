-- What is left to visit of a list, and that it is no larger than the list was.
use Rattle.std.proofs.Common.{◌≡◌, ℕ, zero, suc, ◌+◌, ◌<◌, ◌≤◌, List, [], ◌∷◌, get_or, set, drop, length, refl, sym, ap, ◌∙◌, arith, drop-drop, add_comm}
use Rattle.std.proofs.lemmas.List.{drop-set-lt, drop_more}
use Rattle.es_tree.specs.Tree.{Tree, trees, tree_size, field_size, fields_size, trees_size}
use Rattle.es_tree.specs.Views.{plain_field, plain_fields}
use Rattle.es_tree.specs.declared.node.Field.{Field as NodeField}

drop_one_more : {X : Type 0} (i : ℕ) (xs : List X) → drop (i + 1) xs ≡ drop 1 (drop i xs)
drop_one_more i xs = rw (drop-drop, add_comm i 1) refl

-- what is left to visit of a list, after one item more
pub later_more : {X : Type 0} (first now : List X) (i : ℕ) (y : X) → drop i now ≡ drop i first → drop (i + 1) (set now i y) ≡ drop (i + 1) first
later_more first now i y e = drop-set-lt (i + 1) now i y (omega arith) ∙ (drop_one_more i now ∙ ap (λ xs. drop 1 xs) e ∙ sym (drop_one_more i first))

drop_within : (i : ℕ) (xs : List NodeField) → fields_size (plain_fields (drop i xs)) ≤ fields_size (plain_fields xs)
drop_within zero xs = omega arith
drop_within (suc i) [] = omega arith
drop_within (suc i) (x ∷ xs) = omega (arith, drop_within i xs)

-- a field that is still to visit is no larger than all fields were
pub field_within : (first now : List NodeField) (i : ℕ) (x : NodeField) → i < length now → drop i now ≡ drop i first → field_size (plain_field (get_or now i x)) ≤ fields_size (plain_fields first)
field_within first now i x l e =
    omega (arith, ap (λ xs. fields_size (plain_fields xs)) (sym e ∙ drop_more now i x l), drop_within i first)

drop_trees_within : (i : ℕ) (xs : List Tree) → trees_size (trees (drop i xs)) ≤ trees_size (trees xs)
drop_trees_within zero xs = omega arith
drop_trees_within (suc i) [] = omega arith
drop_trees_within (suc i) (x ∷ xs) = omega (arith, drop_trees_within i xs)

pub tree_within : (first now : List Tree) (i : ℕ) (x : Tree) → i < length now → drop i now ≡ drop i first → tree_size (get_or now i x) ≤ trees_size (trees first)
tree_within first now i x l e =
    omega (arith, ap (λ xs. trees_size (trees xs)) (sym e ∙ drop_more now i x l), drop_trees_within i first)
