-- An open tree with nothing pending is the tree.
use Rattle.std.proofs.Common.{◌≡◌, refl, ap}
use Rattle.es_tree.specs.Tree.{Tree, node, Fields, done, ◌then◌, Field, missing, one, many, statements, Trees, empty, ◌before◌}
use Rattle.es_runs.specs.Open.{opened, opened_fields, opened_field, opened_trees, closed, closed_fields, closed_field, closed_trees}

mutual
  pub closed-opened : (t : Tree) → closed (opened t) ≡ t
  closed-opened (node k l fs) = ap (λ (gs : Fields). node k l gs) (closed-opened-fields fs)

  pub closed-opened-fields : (fs : Fields) → closed_fields (opened_fields fs) ≡ fs
  closed-opened-fields done = refl
  closed-opened-fields (f then fs) = λ i. closed-opened-field f i then closed-opened-fields fs i

  pub closed-opened-field : (f : Field) → closed_field (opened_field f) ≡ f
  closed-opened-field missing = refl
  closed-opened-field (one t) = λ i. one (closed-opened t i)
  closed-opened-field (many ts) = λ i. many (closed-opened-trees ts i)
  closed-opened-field (statements ts) = λ i. statements (closed-opened-trees ts i)

  pub closed-opened-trees : (ts : Trees) → closed_trees (opened_trees ts) ≡ ts
  closed-opened-trees empty = refl
  closed-opened-trees (t before ts) = λ i. closed-opened t i before closed-opened-trees ts i
