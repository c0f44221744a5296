-- What passes no test among the children of a node.
use Rattle.std.proofs.Common.{◌≡◌, refl}
use Rattle.std.specs.Prelude.{Bool, false, ◌||◌}
use Rattle.std.proofs.lemmas.Bool.{or_from, or_parts}
use Rattle.es_tree.specs.Tree.{Tree, Fields, done, ◌then◌, Field, missing, one, many, statements, Trees, empty, ◌before◌}
use Rattle.es_rest_shapes.specs.RestShapes.{any_child, any_child_by, any_tree}

-- where one test passes no node, of two tests, and another asks no more, that passes none
module _ (p q : Tree → Bool) (less : (t : Tree) → p t ≡ false → q t ≡ false) where
  pub fewer-trees : (ts : Trees) → any_tree p ts ≡ false → any_tree q ts ≡ false
  fewer-trees empty e = refl
  fewer-trees (t before ts) e = let h = or_parts (p t) (any_tree p ts) e in or_from (q t) (any_tree q ts) (less t h.0) (fewer-trees ts h.1)

  pub fewer-by : (f : Field) → any_child_by p f ≡ false → any_child_by q f ≡ false
  fewer-by missing e = refl
  fewer-by (one t) e = less t e
  fewer-by (many ts) e = fewer-trees ts e
  fewer-by (statements ts) e = fewer-trees ts e

  pub fewer : (fs : Fields) → any_child p fs ≡ false → any_child q fs ≡ false
  fewer done e = refl
  fewer (f then fs) e = let h = or_parts (any_child_by p f) (any_child p fs) e in or_from (any_child_by q f) (any_child q fs) (fewer-by f h.0) (fewer fs h.1)

-- where each of two tests passes none, none passes one or the other
pub either-none : (p q : Tree → Bool) (ts : Trees) → any_tree p ts ≡ false → any_tree q ts ≡ false → any_tree (λ t. p t || q t) ts ≡ false
either-none p q empty e f = refl
either-none p q (t before ts) e f =
    let h = or_parts (p t) (any_tree p ts) e in
    let k = or_parts (q t) (any_tree q ts) f in
    or_from (p t || q t) (any_tree (λ t. p t || q t) ts) (or_from (p t) (q t) h.0 k.0) (either-none p q ts h.1 k.1)
