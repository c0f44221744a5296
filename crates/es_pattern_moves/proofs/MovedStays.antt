-- Where no pattern moves a tree stays as it is, and no number is taken.
use Rattle.std.proofs.Common.{◌≡◌, ◌∙◌, ℕ, refl, ap}
use Rattle.std.specs.Prelude.{Bool, false, ◌+◌, if◌then◌else◌}
use Rattle.std.proofs.lemmas.Bool.{or_parts}
use Rattle.es_tree.specs.Tree.{Tree, node, Fields, done, ◌then◌, Field, missing, one, many, statements, Trees, empty, ◌before◌}
use Rattle.es_tree.specs.Walks.{any_in_field, any_in_fields, any_in_trees, any_node}
use Rattle.es_pattern_moves.specs.Laws.{LawStays}
use Rattle.es_pattern_moves.specs.Moved.{Makes, count_here, moved, moved_among, moved_by, moved_fields, moved_here, moved_in}
use Rattle.es_pattern_moves.specs.PatternMoves.{moves_pattern}

module _ (m : Makes) where
  mutual
    pub tree-stays : (n : ℕ) (t : Tree) → any_node moves_pattern t ≡ false → moved m n t ≡ (n, t)
    tree-stays n (node k l fs) e =
        let h = or_parts (moves_pattern k l fs) (any_in_fields moves_pattern fs) e in
        ap (λ (r : ℕ × Fields). moved_here m r.0 k l r.1) (fields-stay n fs h.1) ∙ ap (λ (b : Bool). if b then (n + count_here k fs, node k l (moved_fields m n k fs)) else (n, node k l fs)) h.0

    pub fields-stay : (n : ℕ) (fs : Fields) → any_in_fields moves_pattern fs ≡ false → moved_in m n fs ≡ (n, fs)
    fields-stay n done e = refl
    fields-stay n (f then fs) e =
        let h = or_parts (any_in_field moves_pattern f) (any_in_fields moves_pattern fs) e in
        ap (λ (r : ℕ × Field). ((moved_in m r.0 fs).0, r.1 then (moved_in m r.0 fs).1)) (field-stays n f h.0) ∙ ap (λ (r : ℕ × Fields). (r.0, f then r.1)) (fields-stay n fs h.1)

    pub field-stays : (n : ℕ) (f : Field) → any_in_field moves_pattern f ≡ false → moved_by m n f ≡ (n, f)
    field-stays n missing e = refl
    field-stays n (one t) e = ap (λ (r : ℕ × Tree). (r.0, one r.1)) (tree-stays n t e)
    field-stays n (many ts) e = ap (λ (r : ℕ × Trees). (r.0, many r.1)) (trees-stay n ts e)
    field-stays n (statements ts) e = ap (λ (r : ℕ × Trees). (r.0, statements r.1)) (trees-stay n ts e)

    pub trees-stay : (n : ℕ) (ts : Trees) → any_in_trees moves_pattern ts ≡ false → moved_among m n ts ≡ (n, ts)
    trees-stay n empty e = refl
    trees-stay n (t before ts) e =
        let h = or_parts (any_node moves_pattern t) (any_in_trees moves_pattern ts) e in
        ap (λ (r : ℕ × Tree). ((moved_among m r.0 ts).0, r.1 before (moved_among m r.0 ts).1)) (tree-stays n t h.0) ∙ ap (λ (r : ℕ × Trees). (r.0, t before r.1)) (trees-stay n ts h.1)

pub law_stays_proof : LawStays
law_stays_proof p m e = tree-stays m 0 p e
