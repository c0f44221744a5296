-- Numbers of names are taken upwards.
use Rattle.std.proofs.Common.{◌≤◌, ℕ, suc, arith}
use Rattle.std.specs.Prelude.{Bool, true, false, if◌then◌else◌}
use Rattle.es_tree.specs.Tree.{Tree, node, Label, Fields, done, ◌then◌, Field, missing, one, many, statements, Trees, empty, ◌before◌}
use Rattle.es_tree.specs.declared.ast_type.AstType.{AstType}
use Rattle.es_pattern_moves.specs.Moved.{Makes}
use Rattle.es_using_heads.specs.Heads.{headed, headed_among, headed_by, headed_fields, headed_here, headed_in, moves_using}

module _ (m : Makes) where
  abbrev NotBelow : ℕ → ℕ × Tree → Type 0
  NotBelow n r = n ≤ r.0

  pub here-more : (n : ℕ) (k : AstType) (l : Label) (fs : Fields) → n ≤ (headed_here m n k l fs).0
  here-more n k l fs = at (moves_using k l fs)
    where
      at : (b : Bool) → NotBelow n (if b then (suc n, node k l (headed_fields m n fs)) else (n, node k l fs))
      at true = omega arith
      at false = omega arith

  mutual
    pub tree-more : (n : ℕ) (t : Tree) → n ≤ (headed m n t).0
    tree-more n (node k l fs) = omega (arith, fields-more n fs, here-more (headed_in m n fs).0 k l (headed_in m n fs).1)

    pub fields-more : (n : ℕ) (fs : Fields) → n ≤ (headed_in m n fs).0
    fields-more n done = omega arith
    fields-more n (f then fs) = omega (arith, field-more n f, fields-more (headed_by m n f).0 fs)

    pub field-more : (n : ℕ) (f : Field) → n ≤ (headed_by m n f).0
    field-more n missing = omega arith
    field-more n (one t) = tree-more n t
    field-more n (many ts) = trees-more n ts
    field-more n (statements ts) = trees-more n ts

    pub trees-more : (n : ℕ) (ts : Trees) → n ≤ (headed_among m n ts).0
    trees-more n empty = omega arith
    trees-more n (t before ts) = omega (arith, tree-more n t, trees-more (headed m n t).0 ts)
