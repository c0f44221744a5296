-- A tree without ids and marks is written as the tree is.
use Rattle.std.proofs.Common.{◌≡◌, refl, ap, List, ◌∷◌}
use Rattle.serde_json.specs.Data.{Data, object, array, item}
use Rattle.es_tree.specs.Bare.{bare, bare_fields, bare_field, bare_trees}
use Rattle.es_tree.specs.Tree.{Tree, node, Fields, done, ◌then◌, Field, missing, one, many, statements, Trees, empty, ◌before◌}
use Rattle.es_json.specs.Canonical.{canonical, values, field_value, tree_items, node_members}

mutual
  pub canonical-bare : (t : Tree) → canonical (bare t) ≡ canonical t
  canonical-bare (node k l fs) = ap (λ (ds : List Data). object (node_members k l ds)) (values-bare fs)

  values-bare : (fs : Fields) → values (bare_fields fs) ≡ values fs
  values-bare done = refl
  values-bare (f then fs) = λ i. value-bare f i ∷ values-bare fs i

  value-bare : (f : Field) → field_value (bare_field f) ≡ field_value f
  value-bare missing = refl
  value-bare (one t) = canonical-bare t
  value-bare (many ts) = ap array (items-bare ts)
  value-bare (statements ts) = ap array (items-bare ts)

  items-bare : (ts : Trees) → tree_items (bare_trees ts) ≡ tree_items ts
  items-bare empty = refl
  items-bare (t before ts) = λ i. item (canonical-bare t i) (items-bare ts i)

-- so are trees that are equal but for them
pub same_canonical : (p q : Tree) → bare q ≡ bare p → canonical q ≡ canonical p
same_canonical p q same = λ i. at i
  where
    at : canonical q ≡ canonical p
    at = let a = canonical-bare q in let b = canonical-bare p in let c : canonical (bare q) ≡ canonical (bare p) = ap canonical same in cc
