-- What a program becomes weighs no more than twenty for each node of it, once its `using` is lowered, too. A node weighs and spares no more than sixteen
-- beside its parts. A loop that moves weighs 79 beside its right side and its body: seven itself, six by its head, and 66 by its block with the
-- declaration; which it, its declaration, its declarator and its name pay.
use Rattle.std.proofs.Common.{◌≡◌, ◌≤◌, ◌∙◌, ℕ, suc, refl, ap, sym, arith, List}
use Rattle.std.specs.Prelude.{Bool, true, false, ◌+◌, ◌*◌, codes, if◌then◌else◌}
use Rattle.std.proofs.lemmas.Bool.{and_from, and_parts}
use Rattle.es_tree.specs.Tree.{Tree, node, Label, Fields, done, ◌then◌, Field, missing, one, many, statements, Trees, empty, ◌before◌, field_size, fields_size, kind_of, tree_size, trees_size}
use Rattle.es_tree.specs.Walks.{all_in_field, all_in_fields, all_in_trees, all_nodes}
use Rattle.es_tree.specs.Words.{Text}
use Rattle.es_tree.specs.declared.ast_type.AstType.{AstType}
use Rattle.es_tree.specs.declared.ast_type.AstType.TheVariants.{BlockStatement, ForOfStatement, Identifier, VariableDeclaration, VariableDeclarator}
use Rattle.es_tree.specs.declared.table.Sort.TheVariants.{Program as s-Program}
use Rattle.es_steps.specs.LoopHeads.{head_fields}
use Rattle.es_rest_shapes.specs.RestShapes.{is_name}
use Rattle.es_pattern_moves.specs.Moved.{Makes, declares, plainly}
use Rattle.es_pattern_moves.specs.Weights.{weighed, weighed_among, weighed_by, weighed_in}
use Rattle.es_using_rows.specs.Used.{Makes as UsedMakes, plainly as plainly_used, used, used_among, used_by, used_in}
use Rattle.es_using_rows.specs.UsingPlaces.{standing_in}
use Rattle.es_using_rows.specs.declared.standing.Standing.{Standing}
use Rattle.es_using_rows.specs.declared.standing.Standing.TheVariants.{Anywhere}
use Rattle.es_using_rows.proofs.FormedNodes.{formed-nodes}
use Rattle.es_using_rows.proofs.UsedSize.{AreNames, block-here, formed-others, has_others, here-paid, is_other, others-stay, spare, spare_among, spare_by, spare_in}
use Rattle.es_using_heads.specs.Heads.{headed, headed_among, headed_by, headed_fields, headed_here, headed_in, moves_from_head, moves_using}
use Rattle.es_using_heads.specs.Laws.{LawWeighed}
use Rattle.es_using_heads.proofs.HeadShapes.{head-tests}

some-size : (t : Tree) → 1 ≤ tree_size t
some-size (node k l fs) = omega arith

-- KINDS: a head that moves is a declaration of a declarator, and each node keeps its kind

abbrev is_declaration : AstType → Bool
is_declaration VariableDeclaration = true
is_declaration _ = false

abbrev is_declarator : AstType → Bool
is_declarator VariableDeclarator = true
is_declarator _ = false

head-declares : (t : Tree) (fs : Fields) → moves_from_head (one t then fs) ≡ true → is_declaration (kind_of t) ≡ true
head-declares (node VariableDeclaration l gs) fs h = refl
head-declares (node _ l gs) fs h = absurd (cc h)

head-declarator : (l : Label) (t : Tree) (ts : Trees) (gs fs : Fields) → moves_from_head (one (node VariableDeclaration l (many (t before ts) then gs)) then fs) ≡ true → is_declarator (kind_of t) ≡ true
head-declarator l (node VariableDeclarator k hs) ts gs fs h = refl
head-declarator l (node _ k hs) ts gs fs h = absurd (cc h)

module _ (heads : List Text) (m : UsedMakes) (named : AreNames m) where
  abbrev h : Makes
  h = plainly heads

  abbrev IsOf : AstType → ℕ × Tree → Type 0
  IsOf k r = kind_of r.1 ≡ k

  kind-here : (j : ℕ) (k : AstType) (l : Label) (fs : Fields) → kind_of (headed_here h j k l fs).1 ≡ k
  kind-here j k l fs = at (moves_using k l fs)
    where
      at : (b : Bool) → IsOf k (if b then (suc j, node k l (headed_fields h j fs)) else (j, node k l fs))
      at true = refl
      at false = refl

  pub kind-stays : (i : ℕ) (t : Tree) → kind_of (headed h i t).1 ≡ kind_of t
  kind-stays i (node k l fs) = kind-here (headed_in h i fs).0 k l (headed_in h i fs).1

  pub headed-others : (i : ℕ) (k : AstType) (l : Label) (fs : Fields) → has_others k l fs ≡ true → has_others k l (headed_in h i fs).1 ≡ true
  headed-others i VariableDeclarator l (one x then one e then done) o =
      let d = and_parts (is_other (kind_of x)) (is_other (kind_of e)) o in
      and_from (is_other (kind_of (headed h i x).1)) (is_other (kind_of (headed h (headed h i x).0 e).1)) (ap is_other (kind-stays i x) ∙ d.0) (ap is_other (kind-stays (headed h i x).0 e) ∙ d.1)
  headed-others i _ l _ o = refl

  -- A LOOP THAT MOVES, with its `using` lowered
  moved-weighs : (j n : ℕ) (l k : Label) (x e b : Tree) (v w : ℕ) → is_name x ≡ true → weighed (used m Anywhere n e).1 ≤ v → ((o : ℕ) → weighed (used m Anywhere o b).1 + spare (used m Anywhere o b).1 ≤ w) →
      weighed_in (used_in m (standing_in ForOfStatement) n (headed_fields h j (head_fields l k x e b))).1 ≤ 72 + v + w
  moved-weighs j n l k (node Identifier p done) e b v w name value body =
      let x : Tree = node Identifier p done in
      let o : ℕ = (used m Anywhere n e).0 in
      let r : ℕ × Fields = used_in m (standing_in BlockStatement) o (statements (declares h (codes "using") j x before b before empty) then done) in
      let inner : weighed_in r.1 + spare_in r.1 ≤ 54 + w = omega (arith, body o) in
      omega (arith, value, block-here m named Anywhere r.0 (h.block x) r.1 (54 + w) inner)
  moved-weighs j n l k _ e b v w name value body = absurd (cc name)

  -- A NODE that moves, or doesn't

  abbrev Fits : Standing → ℕ → ℕ → ℕ × Tree → Type 0
  Fits s n w r = weighed (used m s n r.1).1 + spare (used m s n r.1).1 ≤ 20 + w

  moving-fits : (s : Standing) (n j : ℕ) (k : AstType) (l : Label) (fs : Fields) (w : ℕ) → moves_using k l fs ≡ true → (moves_from_head fs ≡ true → weighed_in (used_in m (standing_in ForOfStatement) n (headed_fields h j fs)).1 + 7 ≤ 20 + w) → Fits s n w (suc j, node k l (headed_fields h j fs))
  moving-fits s n j ForOfStatement l fs w e moved = omega (arith, moved e)
  moving-fits s n j k l fs w e moved = absurd (cc e)

  here-fits : (s : Standing) (n j : ℕ) (k : AstType) (l : Label) (fs : Fields) (w : ℕ) → has_others k l fs ≡ true → weighed_in (used_in m (standing_in k) n fs).1 + spare_in (used_in m (standing_in k) n fs).1 ≤ w →
      (moves_from_head fs ≡ true → weighed_in (used_in m (standing_in ForOfStatement) n (headed_fields h j fs)).1 + 7 ≤ 20 + w) → Fits s n w (headed_here h j k l fs)
  here-fits s n j k l fs w others stays moved = at (moves_using k l fs) refl
    where
      at : (b : Bool) → moves_using k l fs ≡ b → Fits s n w (if b then (suc j, node k l (headed_fields h j fs)) else (j, node k l fs))
      at true e = moving-fits s n j k l fs w e moved
      at false e = omega (arith, here-paid m named s (used_in m (standing_in k) n fs).0 k l (used_in m (standing_in k) n fs).1 w (others-stay m named (standing_in k) n k l fs others) stays)

  -- A TREE
  mutual
    pub tree-fits : (s : Standing) (n i : ℕ) (t : Tree) → all_nodes has_others t ≡ true → weighed (used m s n (headed h i t).1).1 + spare (used m s n (headed h i t).1).1 ≤ 20 * tree_size t
    tree-fits s n i (node k l fs) o =
        let d = and_parts (has_others k l fs) (all_in_fields has_others fs) o in
        let j : ℕ = (headed_in h i fs).0 in
        omega (arith, here-fits s n j k l (headed_in h i fs).1 (20 * fields_size fs) (headed-others i k l fs d.0) (fields-fit (standing_in k) n i fs d.1) (λ e. head-fits n i j fs e d.1))

    -- in the head of a loop
    head-fits : (n i j : ℕ) (fs : Fields) → moves_from_head (headed_in h i fs).1 ≡ true → all_in_fields has_others fs ≡ true → weighed_in (used_in m (standing_in ForOfStatement) n (headed_fields h j (headed_in h i fs).1)).1 + 7 ≤ 20 + 20 * fields_size fs
    head-fits n i j (one (node VariableDeclaration l (many (node VariableDeclarator k (one x then missing then done) before empty) then done)) then one e then one b then done) moves o =
        let t : Tree = node VariableDeclaration l (many (node VariableDeclarator k (one x then missing then done) before empty) then done) in
        let d = and_parts (all_nodes has_others t) (all_in_fields has_others (one e then one b then done)) o in
        let f = and_parts (all_nodes has_others e) (all_in_fields has_others (one b then done)) d.1 in
        let g = and_parts (all_nodes has_others b) true f.1 in
        let i' : ℕ = (headed h i x).0 in
        let i'' : ℕ = (headed h i' e).0 in
        let x' : Tree = (headed h i x).1 in
        let e' : Tree = (headed h i' e).1 in
        let b' : Tree = (headed h i'' b).1 in
        let value : weighed (used m Anywhere n e').1 ≤ 20 * tree_size e = omega (arith, tree-fits Anywhere n i' e f.0) in
        omega (arith, some-size x, moved-weighs j n l k x' e' b' (20 * tree_size e) (20 * tree_size b) (head-tests l k x' e' b' moves).name value (λ p. tree-fits Anywhere p i'' b g.0))
    head-fits n i j (one (node VariableDeclaration l (many (node ForOfStatement k hs before ts) then gs)) then fs) moves o =
        let u : Tree = node ForOfStatement k hs in
        let t : Tree = node VariableDeclaration l (many (u before ts) then gs) in
        let declares = head-declarator l (headed h i u).1 (headed_among h (headed h i u).0 ts).1 (headed_in h (headed_by h i (many (u before ts))).0 gs).1 (headed_in h (headed h i t).0 fs).1 moves in
        absurd (cc (sym (ap is_declarator (kind-stays i u)) ∙ declares))
    head-fits n i j (one (node ForOfStatement l gs) then fs) moves o =
        let t : Tree = node ForOfStatement l gs in
        absurd (cc (sym (ap is_declaration (kind-stays i t)) ∙ head-declares (headed h i t).1 (headed_in h (headed h i t).0 fs).1 moves))
    head-fits n i j _ moves o = absurd (cc moves)

    pub fields-fit : (c : ℕ → Standing) (n i : ℕ) (fs : Fields) → all_in_fields has_others fs ≡ true → weighed_in (used_in m c n (headed_in h i fs).1).1 + spare_in (used_in m c n (headed_in h i fs).1).1 ≤ 20 * fields_size fs
    fields-fit c n i done o = omega arith
    fields-fit c n i (f then fs) o =
        let d = and_parts (all_in_field has_others f) (all_in_fields has_others fs) o in
        omega (arith, field-fits (c 0) n i f d.0, fields-fit (λ i. c (suc i)) (used_by m (c 0) n (headed_by h i f).1).0 (headed_by h i f).0 fs d.1)

    pub field-fits : (s : Standing) (n i : ℕ) (f : Field) → all_in_field has_others f ≡ true → weighed_by (used_by m s n (headed_by h i f).1).1 + spare_by (used_by m s n (headed_by h i f).1).1 ≤ 20 * field_size f
    field-fits s n i missing o = omega arith
    field-fits s n i (one t) o = tree-fits s n i t o
    field-fits s n i (many ts) o = trees-fit s n i ts o
    field-fits s n i (statements ts) o = trees-fit s n i ts o

    pub trees-fit : (s : Standing) (n i : ℕ) (ts : Trees) → all_in_trees has_others ts ≡ true → weighed_among (used_among m s n (headed_among h i ts).1).1 + spare_among (used_among m s n (headed_among h i ts).1).1 ≤ 20 * trees_size ts
    trees-fit s n i empty o = omega arith
    trees-fit s n i (t before ts) o =
        let d = and_parts (all_nodes has_others t) (all_in_trees has_others ts) o in
        omega (arith, tree-fits s n i t d.0, trees-fit s (used m s n (headed h i t).1).0 (headed h i t).0 ts d.1)

pub law_weighed_proof : LawWeighed
law_weighed_proof p heads names form =
    omega (arith, tree-fits heads (plainly_used names) (record { context = λ n h. refl; error = λ n h. refl; word = λ x h. refl }) Anywhere 0 0 p (formed-nodes has_others formed-others s-Program p form))
