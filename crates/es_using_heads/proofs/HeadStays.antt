-- Where no `using` stands a tree stays as it is, and no number is taken.
use Rattle.std.proofs.Common.{◌≡◌, ◌∙◌, ℕ, suc, refl, ap}
use Rattle.std.specs.Prelude.{Bool, false, ◌&&◌, not, bytes_eq, codes, if◌then◌else◌}
use Rattle.std.proofs.lemmas.Bool.{or_parts}
use Rattle.es_tree.specs.Constructs.{is_using}
use Rattle.es_tree.specs.Names.{first_text}
use Rattle.es_tree.specs.Tree.{Tree, node, Label, Fields, done, ◌then◌, Field, missing, one, many, statements, Trees, empty, ◌before◌}
use Rattle.es_tree.specs.Walks.{any_in_field, any_in_fields, any_in_trees, any_node}
use Rattle.es_tree.specs.declared.ast_type.AstType.{AstType}
use Rattle.es_tree.specs.declared.ast_type.AstType.TheVariants.{ForOfStatement, VariableDeclaration, VariableDeclarator}
use Rattle.es_rest_shapes.specs.RestShapes.{is_name}
use Rattle.es_pattern_moves.specs.Moved.{Makes}
use Rattle.es_pattern_moves.specs.PatternMoves.{meets}
use Rattle.es_using_rows.proofs.UsedStays.{no-word}
use Rattle.es_using_heads.specs.Heads.{headed, headed_among, headed_by, headed_fields, headed_here, headed_in, moves_from_head, moves_using}
use Rattle.es_using_heads.specs.Laws.{LawStays}

-- TESTS

none-in-head : (fs : Fields) → any_in_fields is_using fs ≡ false → moves_from_head fs ≡ false
none-in-head (one (node VariableDeclaration l (many (node VariableDeclarator k (one x then missing then done) before empty) then done)) then one e then one b then done) h =
    let ds : Fields = many (node VariableDeclarator k (one x then missing then done) before empty) then done in
    let first = or_parts (any_node is_using (node VariableDeclaration l ds)) (any_in_fields is_using (one e then one b then done)) h in
    let word = or_parts (bytes_eq (first_text l.texts) (codes "using")) (any_in_fields is_using ds) first.0 in
    ap (λ (b : Bool). b && is_name x && not (meets x e)) (no-word l.texts word.0)
none-in-head _ h = refl

none-here : (k : AstType) (l : Label) (fs : Fields) → any_in_fields is_using fs ≡ false → moves_using k l fs ≡ false
none-here ForOfStatement l fs h = none-in-head fs h
none-here k l fs h = refl

-- A TREE

module _ (m : Makes) where
  mutual
    tree-stays : (n : ℕ) (t : Tree) → any_node is_using t ≡ false → headed m n t ≡ (n, t)
    tree-stays n (node k l fs) e =
        let h = or_parts (is_using k l fs) (any_in_fields is_using fs) e in
        ap (λ (r : ℕ × Fields). headed_here m r.0 k l r.1) (fields-stay n fs h.1) ∙ ap (λ (b : Bool). if b then (suc n, node k l (headed_fields m n fs)) else (n, node k l fs)) (none-here k l fs h.1)

    fields-stay : (n : ℕ) (fs : Fields) → any_in_fields is_using fs ≡ false → headed_in m n fs ≡ (n, fs)
    fields-stay n done e = refl
    fields-stay n (f then fs) e =
        let h = or_parts (any_in_field is_using f) (any_in_fields is_using fs) e in
        ap (λ (r : ℕ × Field). ((headed_in m r.0 fs).0, r.1 then (headed_in m r.0 fs).1)) (field-stays n f h.0) ∙ ap (λ (r : ℕ × Fields). (r.0, f then r.1)) (fields-stay n fs h.1)

    field-stays : (n : ℕ) (f : Field) → any_in_field is_using f ≡ false → headed_by m n f ≡ (n, f)
    field-stays n missing e = refl
    field-stays n (one t) e = ap (λ (r : ℕ × Tree). (r.0, one r.1)) (tree-stays n t e)
    field-stays n (many ts) e = ap (λ (r : ℕ × Trees). (r.0, many r.1)) (trees-stay n ts e)
    field-stays n (statements ts) e = ap (λ (r : ℕ × Trees). (r.0, statements r.1)) (trees-stay n ts e)

    trees-stay : (n : ℕ) (ts : Trees) → any_in_trees is_using ts ≡ false → headed_among m n ts ≡ (n, ts)
    trees-stay n empty e = refl
    trees-stay n (t before ts) e =
        let h = or_parts (any_node is_using t) (any_in_trees is_using ts) e in
        ap (λ (r : ℕ × Tree). ((headed_among m r.0 ts).0, r.1 before (headed_among m r.0 ts).1)) (tree-stays n t h.0) ∙ ap (λ (r : ℕ × Trees). (r.0, t before r.1)) (trees-stay n ts h.1)

pub law_stays_proof : LawStays
law_stays_proof m n t e = tree-stays m n t e
