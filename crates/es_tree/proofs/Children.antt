-- The one children of the fields of a node.
use Rattle.std.proofs.Common.{◌≡◌, ℕ, zero, suc, ◌<◌, ◌≤◌, Some, None, List, [], ◌∷◌, map, length, get_or, refl, ap, arith}
use Rattle.es_tree.specs.Children.{only_child, child_at}
use Rattle.es_tree.specs.Tree.{Tree, node, tree_size, missing, one, many, statements, Fields, fields, fields_size, fields_of, done, ◌then◌}
use Rattle.es_tree.specs.Views.{plain_field}
use Rattle.es_tree.specs.declared.node.Field.{Field as NodeField}

pub child_at-get : (xs : List NodeField) (i : ℕ) (f : NodeField) → i < length xs → f ≡ get_or xs i f → only_child (plain_field f) ≡ child_at i (fields (map plain_field xs))
child_at-get [] i f h e = absurd (omega arith)
child_at-get (x ∷ xs) zero f h e = ap (λ g. only_child (plain_field g)) e
child_at-get (x ∷ xs) (suc i) f h e = let below : i < length xs = omega arith in child_at-get xs i f below e

pub child_at-past : (xs : List NodeField) (i : ℕ) → length xs ≤ i → None ≡ child_at i (fields (map plain_field xs))
child_at-past [] i h = refl
child_at-past (x ∷ xs) zero h = absurd (omega arith)
child_at-past (x ∷ xs) (suc i) h = let past : length xs ≤ i = omega arith in child_at-past xs i past

child_smaller-fields : (i : ℕ) (fs : Fields) (t : Tree) → Some t ≡ child_at i fs → tree_size t ≤ fields_size fs
child_smaller-fields i done t e = cc
child_smaller-fields zero (missing then fs) t e = cc
child_smaller-fields zero (one u then fs) t e = let same : t ≡ u = cc in omega (arith, ap tree_size same)
child_smaller-fields zero (many us then fs) t e = cc
child_smaller-fields zero (statements us then fs) t e = cc
child_smaller-fields (suc i) (f then fs) t e = omega (arith, child_smaller-fields i fs t e)

pub child_smaller : (i : ℕ) (t u : Tree) → Some u ≡ child_at i (fields_of t) → tree_size u < tree_size t
child_smaller i (node k l fs) u e = omega (arith, child_smaller-fields i fs u e)
