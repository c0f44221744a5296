-- Numbers of names are taken upwards.
use Rattle.std.proofs.Common.{◌≤◌, ℕ, zero, suc, arith}
use Rattle.std.specs.Prelude.{Bool, true, false, if◌then◌else◌}
use Rattle.es_tree.specs.Tree.{Tree, node, Label, Fields, done, ◌then◌, Field, missing, one, many, statements, Trees, empty, ◌before◌}
use Rattle.es_tree.specs.declared.ast_type.AstType.{AstType}
use Rattle.es_using_rows.specs.Used.{Makes, used, used_among, used_by, used_here, used_in, used_node}
use Rattle.es_using_rows.specs.UsingPlaces.{standing_in, uses_here}
use Rattle.es_using_rows.specs.declared.standing.Standing.{Standing}

module _ (m : Makes) where
  abbrev NotBelow : ℕ → ℕ × Tree → Type 0
  NotBelow n r = n ≤ r.0

  pub here-more : (s : Standing) (n : ℕ) (k : AstType) (l : Label) (fs : Fields) → n ≤ (used_here m s n k l fs).0
  here-more s n k l fs = at (uses_here s k l fs)
    where
      at : (b : Bool) → NotBelow n (if b then (suc n, used_node m s n k l fs) else (n, node k l fs))
      at true = omega arith
      at false = omega arith

  mutual
    pub tree-more : (s : Standing) (n : ℕ) (t : Tree) → n ≤ (used m s n t).0
    tree-more s n (node k l fs) = omega (arith, fields-more (standing_in k) n fs, here-more s (used_in m (standing_in k) n fs).0 k l (used_in m (standing_in k) n fs).1)

    pub fields-more : (c : ℕ → Standing) (n : ℕ) (fs : Fields) → n ≤ (used_in m c n fs).0
    fields-more c n done = omega arith
    fields-more c n (f then fs) = omega (arith, field-more (c zero) n f, fields-more (λ i. c (suc i)) (used_by m (c zero) n f).0 fs)

    pub field-more : (s : Standing) (n : ℕ) (f : Field) → n ≤ (used_by m s n f).0
    field-more s n missing = omega arith
    field-more s n (one t) = tree-more s n t
    field-more s n (many ts) = trees-more s n ts
    field-more s n (statements ts) = trees-more s n ts

    pub trees-more : (s : Standing) (n : ℕ) (ts : Trees) → n ≤ (used_among m s n ts).0
    trees-more s n empty = omega arith
    trees-more s n (t before ts) = omega (arith, tree-more s n t, trees-more s (used m s n t).0 ts)
