-- What moves is the same in programs that are the same but for ids and marks, whatever ids and marks are made; and names that are fresh in one are in the
-- other.
use Rattle.std.proofs.Common.{◌≡◌, ◌∙◌, ℕ, suc, refl, sym, ap, subst, List, [], ◌∷◌}
use Rattle.std.specs.Prelude.{Bool, true, false, ◌&&◌, not, Some, codes, if◌then◌else◌}
use Rattle.es_tree.specs.Bare.{bare, bare_field, bare_fields, bare_label, bare_trees}
use Rattle.es_tree.specs.Fresh.{IsFreshName}
use Rattle.es_tree.specs.Tree.{Tree, node, Label, Fields, done, ◌then◌, Field, missing, one, many, statements, Trees, empty, ◌before◌}
use Rattle.es_tree.specs.Words.{Text}
use Rattle.es_tree.specs.declared.ast_type.AstType.{AstType}
use Rattle.es_tree.specs.declared.ast_type.AstType.TheVariants.{BlockStatement, ForOfStatement, VariableDeclaration, VariableDeclarator}
use Rattle.es_steps.proofs.BridgeTrees.{node_base-bare}
use Rattle.es_rest_shapes.specs.RestShapes.{is_name}
use Rattle.es_rest_shapes.proofs.BareRests.{name-bare}
use Rattle.es_pattern_moves.specs.Moved.{Makes, name_of}
use Rattle.es_pattern_moves.specs.PatternMoves.{meets}
use Rattle.es_pattern_moves.proofs.BareMoves.{meets-bare, same-bools}
use Rattle.es_pattern_moves.proofs.MovedAlike.{IsBarely, barely}
use Rattle.es_using_rows.specs.Used.{const_label}
use Rattle.es_using_rows.specs.UsingPlaces.{is_using_word}
use Rattle.es_using_heads.specs.Heads.{Fresh, FreshAmong, FreshBy, FreshHere, FreshIn, asks_its_name, from_head, head_base, headed, headed_among, headed_by, headed_fields, headed_here, headed_in, moves_from_head, moves_using, with_first}

-- THE TESTS and the base of a name ask for neither

module _ (test : Tree → Tree → Bool) (same-test : (x e : Tree) → test (bare x) (bare e) ≡ test x e) where
  head-bare : (fs : Fields) → from_head test (bare_fields fs) ≡ from_head test fs
  head-bare fs = same-bools (from_head test (bare_fields fs)) (from_head test fs) (from fs) (to fs)
    where
      same : (l : Label) (x e : Tree) → (is_using_word l.texts && is_name (bare x) && test (bare x) (bare e)) ≡ (is_using_word l.texts && is_name x && test x e)
      same l x e = λ i. is_using_word l.texts && name-bare x i && same-test x e i

      to : (fs : Fields) → from_head test fs ≡ true → from_head test (bare_fields fs) ≡ true
      to (one (node VariableDeclaration l (many (node VariableDeclarator k (one x then missing then done) before empty) then done)) then one e then one b then done) h = same l x e ∙ h
      to _ h = absurd (cc h)

      from : (fs : Fields) → from_head test (bare_fields fs) ≡ true → from_head test fs ≡ true
      from (one (node VariableDeclaration l (many (node VariableDeclarator k (one x then missing then done) before empty) then done)) then one e then one b then done) h = sym (same l x e) ∙ h
      from _ h = absurd (cc h)

moves-bare : (k : AstType) (l : Label) (fs : Fields) → moves_using k (bare_label l) (bare_fields fs) ≡ moves_using k l fs
moves-bare ForOfStatement l fs = head-bare (λ x e. not (meets x e)) (λ x e i. not (meets-bare x e i)) fs
moves-bare k l fs = refl

pub asks-bare : (k : AstType) (l : Label) (fs : Fields) → asks_its_name k (bare_label l) (bare_fields fs) ≡ asks_its_name k l fs
asks-bare ForOfStatement l fs = head-bare meets meets-bare fs
asks-bare k l fs = refl

base-bare : (fs : Fields) → head_base (bare_fields fs) ≡ head_base fs
base-bare (one (node VariableDeclaration l (many (node VariableDeclarator k (one x then fs) before ds) then gs)) then hs) = node_base-bare x
base-bare _ = refl

module _ (names : List Text) (m : Makes) (h : IsBarely names m) where
  abbrev b : Makes
  b = barely names

  -- WHAT A TREE BECOMES

  moving-bare : (n : ℕ) (fs : Fields) → moves_from_head fs ≡ true → bare_fields (headed_fields m n fs) ≡ headed_fields b n (bare_fields fs)
  moving-bare n (one (node VariableDeclaration l (many (node VariableDeclarator k (one x then missing then done) before empty) then done)) then one e then one body then done) d =
      λ i.
      one (node VariableDeclaration (const_label (bare_label l)) (many (node VariableDeclarator (bare_label k) (one (h.name n x i) then missing then done) before empty) then done)) then one (bare e)
      then one
      (node BlockStatement (h.block x i) (statements (node VariableDeclaration (h.label x (Some (codes "using") ∷ []) i) (many (node VariableDeclarator (h.label x [] i) (one (bare x) then one (h.name n x i) then done) before empty) then done) before bare body before empty) then done))
      then done
  moving-bare n _ d = absurd (cc d)

  here-moving : (n : ℕ) (k : AstType) (l : Label) (fs : Fields) → moves_using k l fs ≡ true → bare_fields (headed_fields m n fs) ≡ headed_fields b n (bare_fields fs)
  here-moving n ForOfStatement l fs e = moving-bare n fs e
  here-moving n k l fs e = absurd (cc e)

  abbrev forget : ℕ × Tree → ℕ × Tree
  forget r = (r.0, bare r.1)

  here-bare : (n : ℕ) (k : AstType) (l : Label) (fs : Fields) → forget (headed_here m n k l fs) ≡ headed_here b n k (bare_label l) (bare_fields fs)
  here-bare n k l fs = at (moves_using k l fs) refl ∙ ap (λ (c : Bool). if c then (suc n, node k (bare_label l) (headed_fields b n (bare_fields fs))) else (n, node k (bare_label l) (bare_fields fs))) (sym (moves-bare k l fs))
    where
      at : (c : Bool) → moves_using k l fs ≡ c → forget (if c then (suc n, node k l (headed_fields m n fs)) else (n, node k l fs)) ≡ (if c then (suc n, node k (bare_label l) (headed_fields b n (bare_fields fs))) else (n, node k (bare_label l) (bare_fields fs)))
      at true e = λ i. (suc n, node k (bare_label l) (here-moving n k l fs e i))
      at false e = refl

  mutual
    tree-bare : (n : ℕ) (t : Tree) → ((headed m n t).0, bare (headed m n t).1) ≡ headed b n (bare t)
    tree-bare n (node k l fs) = here-bare (headed_in m n fs).0 k l (headed_in m n fs).1 ∙ ap (λ (r : ℕ × Fields). headed_here b r.0 k (bare_label l) r.1) (fields-bare n fs)

    fields-bare : (n : ℕ) (fs : Fields) → ((headed_in m n fs).0, bare_fields (headed_in m n fs).1) ≡ headed_in b n (bare_fields fs)
    fields-bare n done = refl
    fields-bare n (f then fs) =
        ap (λ (r : ℕ × Fields). (r.0, bare_field (headed_by m n f).1 then r.1)) (fields-bare (headed_by m n f).0 fs) ∙ ap (λ (q : ℕ × Field). ((headed_in b q.0 (bare_fields fs)).0, q.1 then (headed_in b q.0 (bare_fields fs)).1)) (field-bare n f)

    field-bare : (n : ℕ) (f : Field) → ((headed_by m n f).0, bare_field (headed_by m n f).1) ≡ headed_by b n (bare_field f)
    field-bare n missing = refl
    field-bare n (one t) = ap (λ (r : ℕ × Tree). (r.0, one r.1)) (tree-bare n t)
    field-bare n (many ts) = ap (λ (r : ℕ × Trees). (r.0, many r.1)) (trees-bare n ts)
    field-bare n (statements ts) = ap (λ (r : ℕ × Trees). (r.0, statements r.1)) (trees-bare n ts)

    trees-bare : (n : ℕ) (ts : Trees) → ((headed_among m n ts).0, bare_trees (headed_among m n ts).1) ≡ headed_among b n (bare_trees ts)
    trees-bare n empty = refl
    trees-bare n (t before ts) =
        ap (λ (r : ℕ × Trees). (r.0, bare (headed m n t).1 before r.1)) (trees-bare (headed m n t).0 ts) ∙ ap (λ (q : ℕ × Tree). ((headed_among b q.0 (bare_trees ts)).0, q.1 before (headed_among b q.0 (bare_trees ts)).1)) (tree-bare n t)

  -- FRESH NAMES

  module _ (in_use : Text → Bool) where
    here-fresh : (n : ℕ) (k : AstType) (l : Label) (fs : Fields) → FreshHere m in_use names n k l fs ≡ FreshHere b in_use names n k (bare_label l) (bare_fields fs)
    here-fresh n k l fs = λ i. sym (moves-bare k l fs) i ≡ true → IsFreshName (with_first names n in_use) (sym (base-bare fs) i) (name_of names n)

    mutual
      tree-fresh : (n : ℕ) (t : Tree) → Fresh m in_use names n t ≡ Fresh b in_use names n (bare t)
      tree-fresh n (node k l fs) =
          let here = here-fresh (headed_in m n fs).0 k l (headed_in m n fs).1 ∙ ap (λ (r : ℕ × Fields). FreshHere b in_use names r.0 k (bare_label l) r.1) (fields-bare n fs) in
          λ i. fields-fresh n fs i × here i

      fields-fresh : (n : ℕ) (fs : Fields) → FreshIn m in_use names n fs ≡ FreshIn b in_use names n (bare_fields fs)
      fields-fresh n done = refl
      fields-fresh n (f then fs) =
          let later = fields-fresh (headed_by m n f).0 fs ∙ ap (λ (r : ℕ × Field). FreshIn b in_use names r.0 (bare_fields fs)) (field-bare n f) in
          λ i. field-fresh n f i × later i

      field-fresh : (n : ℕ) (f : Field) → FreshBy m in_use names n f ≡ FreshBy b in_use names n (bare_field f)
      field-fresh n missing = refl
      field-fresh n (one t) = tree-fresh n t
      field-fresh n (many ts) = trees-fresh n ts
      field-fresh n (statements ts) = trees-fresh n ts

      trees-fresh : (n : ℕ) (ts : Trees) → FreshAmong m in_use names n ts ≡ FreshAmong b in_use names n (bare_trees ts)
      trees-fresh n empty = refl
      trees-fresh n (t before ts) =
          let later = trees-fresh (headed m n t).0 ts ∙ ap (λ (r : ℕ × Tree). FreshAmong b in_use names r.0 (bare_trees ts)) (tree-bare n t) in
          λ i. tree-fresh n t i × later i

-- two trees that are the same but for ids and marks
pub headed-alike : (names : List Text) (m m' : Makes) → IsBarely names m → IsBarely names m' → (n : ℕ) (t u : Tree) → bare t ≡ bare u → ((headed m n t).0 ≡ (headed m' n u).0) × (bare (headed m n t).1 ≡ bare (headed m' n u).1)
headed-alike names m m' h h' n t u e =
    let same : ◌≡◌ {A = ℕ × Tree} ((headed m n t).0, bare (headed m n t).1) ((headed m' n u).0, bare (headed m' n u).1) = tree-bare names m h n t ∙ ap (λ (x : Tree). headed (barely names) n x) e ∙ sym (tree-bare names m' h' n u) in
    (ap (λ (r : ℕ × Tree). r.0) same, ap (λ (r : ℕ × Tree). r.1) same)

pub fresh-alike : (names : List Text) (m m' : Makes) → IsBarely names m → IsBarely names m' → (in_use : Text → Bool) (n : ℕ) (t u : Tree) → bare t ≡ bare u → Fresh m in_use names n t → Fresh m' in_use names n u
fresh-alike names m m' h h' in_use n t u e fresh =
    let same = tree-fresh names m h in_use n t ∙ ap (λ (x : Tree). Fresh (barely names) in_use names n x) e ∙ sym (tree-fresh names m' h' in_use n u) in
    subst (λ (A : Type 0). A) same fresh
