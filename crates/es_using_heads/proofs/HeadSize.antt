-- A tree becomes at most twice as large: a loop that moves gets five nodes, of which its head pays three and itself one; and each node of its right side
-- and its body has one to spare.
use Rattle.std.proofs.Common.{◌≡◌, ◌≤◌, ℕ, suc, refl, arith}
use Rattle.std.specs.Prelude.{Bool, true, false, ◌+◌, ◌*◌, if◌then◌else◌}
use Rattle.es_tree.specs.Tree.{Tree, node, Label, Fields, done, ◌then◌, Field, missing, one, many, statements, Trees, empty, ◌before◌, field_size, fields_size, tree_size, trees_size}
use Rattle.es_tree.specs.declared.ast_type.AstType.{AstType}
use Rattle.es_tree.specs.declared.ast_type.AstType.TheVariants.{ForOfStatement}
use Rattle.es_pattern_moves.specs.Moved.{Makes}
use Rattle.es_using_heads.specs.Heads.{headed, headed_among, headed_by, headed_fields, headed_here, headed_in, moves_using}
use Rattle.es_using_heads.specs.Laws.{LawHeadedSize}
use Rattle.es_using_heads.proofs.HeadShapes.{IsHead, head-shape}
use Rattle.es_using_heads.proofs.HeadShapes.IsHead.{a_head}

-- WHAT A TREE SPARES: each node one, but of a loop that may have moved only itself
abbrev mutual
  spare : Tree → ℕ
  spare (node ForOfStatement l fs) = 1
  spare (node k l fs) = suc (spare_in fs)

  spare_in : Fields → ℕ
  spare_in done = 0
  spare_in (f then fs) = spare_by f + spare_in fs

  spare_by : Field → ℕ
  spare_by missing = 0
  spare_by (one t) = spare t
  spare_by (many ts) = spare_among ts
  spare_by (statements ts) = spare_among ts

  spare_among : Trees → ℕ
  spare_among empty = 0
  spare_among (t before ts) = spare t + spare_among ts

spare-some : (t : Tree) → 1 ≤ spare t
spare-some (node ForOfStatement l fs) = omega arith
spare-some (node k l fs) = omega arith

spare-node : (k : AstType) (l : Label) (fs : Fields) → spare (node k l fs) ≤ suc (spare_in fs)
spare-node ForOfStatement l fs = omega arith
spare-node k l fs = omega arith

module _ (m : Makes) (single : (i : ℕ) (x : Tree) → tree_size (m.name i x) ≡ 1) where
  -- a loop that moves
  head-size : (n : ℕ) {fs : Fields} → IsHead fs → fields_size (headed_fields m n fs) + 1 ≤ fields_size fs + spare_in fs + 1
  head-size n (a_head l k x e b moves) = omega (arith, single n x, spare-some x, spare-some e, spare-some b)

  abbrev Fits : ℕ → ℕ × Tree → Type 0
  Fits bound r = tree_size r.1 + spare r.1 ≤ bound

  moving-size : (n : ℕ) (k : AstType) (l : Label) (fs : Fields) → moves_using k l fs ≡ true → tree_size (node k l (headed_fields m n fs)) + spare (node k l (headed_fields m n fs)) ≤ 2 + fields_size fs + spare_in fs
  moving-size n ForOfStatement l fs e = omega (arith, head-size n (head-shape fs e))
  moving-size n k l fs e = absurd (cc e)

  here-size : (n : ℕ) (k : AstType) (l : Label) (fs : Fields) → Fits (2 + fields_size fs + spare_in fs) (headed_here m n k l fs)
  here-size n k l fs = at (moves_using k l fs) refl
    where
      at : (b : Bool) → moves_using k l fs ≡ b → Fits (2 + fields_size fs + spare_in fs) (if b then (suc n, node k l (headed_fields m n fs)) else (n, node k l fs))
      at true e = moving-size n k l fs e
      at false e = omega (arith, spare-node k l fs)

  mutual
    tree-size : (n : ℕ) (t : Tree) → tree_size (headed m n t).1 + spare (headed m n t).1 ≤ 2 * tree_size t
    tree-size n (node k l fs) = omega (arith, here-size (headed_in m n fs).0 k l (headed_in m n fs).1, fields-size n fs)

    fields-size : (n : ℕ) (fs : Fields) → fields_size (headed_in m n fs).1 + spare_in (headed_in m n fs).1 ≤ 2 * fields_size fs
    fields-size n done = omega arith
    fields-size n (f then fs) = omega (arith, field-size n f, fields-size (headed_by m n f).0 fs)

    field-size : (n : ℕ) (f : Field) → field_size (headed_by m n f).1 + spare_by (headed_by m n f).1 ≤ 2 * field_size f
    field-size n missing = omega arith
    field-size n (one t) = tree-size n t
    field-size n (many ts) = trees-size n ts
    field-size n (statements ts) = trees-size n ts

    trees-size : (n : ℕ) (ts : Trees) → trees_size (headed_among m n ts).1 + spare_among (headed_among m n ts).1 ≤ 2 * trees_size ts
    trees-size n empty = omega arith
    trees-size n (t before ts) = omega (arith, tree-size n t, trees-size (headed m n t).0 ts)

pub law_headed_size_proof : LawHeadedSize
law_headed_size_proof m n t single = omega (arith, tree-size m single n t)
