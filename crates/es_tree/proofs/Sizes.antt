-- How many nodes stand in the first fields of a node and the first nodes of a list.
use Rattle.std.proofs.Common.{ℕ, suc, ◌+◌, ◌<◌, ◌≤◌, ◌≡◌, List, [], ◌∷◌, get_or, length, map, sum_by, take, ap, refl, arith}
use Rattle.std.proofs.lemmas.List.Sums.{sum_by-cons, sum_by_more, sum_by_more_le}
use Rattle.es_tree.specs.Tree.{Tree, node, fields, trees, tree_size, field_size, fields_size, trees_size}
use Rattle.es_tree.specs.Views.{plain_field, view_node}
use Rattle.es_tree.specs.declared.node.Field.{Field as NodeField}
use Rattle.es_tree.specs.declared.node.Node.TheInside.{Inside}

pub tree_size-positive : (t : Tree) → 1 ≤ tree_size t
tree_size-positive (node k l fs) = omega arith

pub fields_size-sum : (xs : List NodeField) → fields_size (fields (map plain_field xs)) ≡ sum_by (λ f. field_size (plain_field f)) xs
fields_size-sum [] = refl
fields_size-sum (x ∷ xs) = omega (arith, fields_size-sum xs, sum_by-cons (λ f. field_size (plain_field f)) x xs)

pub trees_size-sum : (ts : List Tree) → trees_size (trees ts) ≡ sum_by tree_size ts
trees_size-sum [] = refl
trees_size-sum (t ∷ ts) = omega (arith, trees_size-sum ts, sum_by-cons tree_size t ts)

-- one field more
pub fields_size-more : (xs : List NodeField) (i : ℕ) (x : NodeField) → i < length xs → x ≡ get_or xs i x
    → fields_size (fields (map plain_field (take (i + 1) xs))) ≡ fields_size (fields (map plain_field (take i xs))) + field_size (plain_field x)
fields_size-more xs i x h e =
    omega (arith, fields_size-sum (take i xs), fields_size-sum (take (i + 1) xs), sum_by_more (λ f. field_size (plain_field f)) xs i x h, ap (λ f. field_size (plain_field f)) e)

pub fields_size-within : (xs : List NodeField) (i : ℕ) (x : NodeField) → i < length xs → x ≡ get_or xs i x
    → fields_size (fields (map plain_field (take i xs))) + field_size (plain_field x) ≤ fields_size (fields (map plain_field xs))
fields_size-within xs i x h e =
    omega (arith, fields_size-sum (take i xs), fields_size-sum xs, sum_by_more_le (λ f. field_size (plain_field f)) xs i x h, ap (λ f. field_size (plain_field f)) e)

-- a field of a node and those before it are smaller than the node
pub node-within : (t : Tree) (a : Inside) (xs : List NodeField) (i : ℕ) (x : NodeField) → view_node a ≡ t → xs ≡ a.fields.items → i < length xs → x ≡ get_or xs i x
    → suc (fields_size (fields (map plain_field (take i xs))) + field_size (plain_field x)) ≤ tree_size t
node-within t a xs i x is items h e =
    omega (arith, fields_size-within xs i x h e, ap (λ ys. fields_size (fields (map plain_field ys))) items, ap tree_size is)

-- one node more
pub trees_size-more : (ts : List Tree) (i : ℕ) (t : Tree) → i < length ts → t ≡ get_or ts i t
    → trees_size (trees (take (i + 1) ts)) ≡ trees_size (trees (take i ts)) + tree_size t
trees_size-more ts i t h e =
    omega (arith, trees_size-sum (take i ts), trees_size-sum (take (i + 1) ts), sum_by_more tree_size ts i t h, ap tree_size e)

pub trees_size-within : (ts : List Tree) (i : ℕ) (t : Tree) → i < length ts → t ≡ get_or ts i t
    → trees_size (trees (take i ts)) + tree_size t ≤ trees_size (trees ts)
trees_size-within ts i t h e =
    omega (arith, trees_size-sum (take i ts), trees_size-sum ts, sum_by_more_le tree_size ts i t h, ap tree_size e)
