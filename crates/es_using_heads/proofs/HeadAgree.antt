-- What a program becomes is told by its fresh names, and each is the first of its base that isn't in use where those before it are: so two programs that
-- it becomes are one.
use Rattle.std.proofs.Common.{◌≡◌, ◌∙◌, ◌≤◌, ◌<◌, ℕ, zero, suc, refl, sym, ap, arith, subst, inl, inr, length, List}
use Rattle.std.specs.Prelude.{Bool, true, false, ◌⊎◌, if◌then◌else◌}
use Rattle.std.proofs.lemmas.Bool.{cases_lt}
use Rattle.es_tree.specs.Fresh.{IsFreshName, also}
use Rattle.es_tree.specs.Tree.{Tree, node, Label, Fields, done, ◌then◌, Field, missing, one, many, statements, Trees, empty, ◌before◌}
use Rattle.es_tree.specs.Words.{Text}
use Rattle.es_tree.specs.declared.ast_type.AstType.{AstType}
use Rattle.es_tree.specs.declared.ast_type.AstType.TheVariants.{VariableDeclaration, VariableDeclarator}
use Rattle.es_pattern_moves.specs.Moved.{Makes, name_of, plain_name, plainly}
use Rattle.es_pattern_moves.proofs.MovedAgree.{MakeSame, one-fresh, same-lists}
use Rattle.es_using_heads.specs.Heads.{Fresh, FreshAmong, FreshBy, FreshHere, FreshIn, head_base, headed, headed_among, headed_by, headed_fields, headed_here, headed_in, moves_using, with_first}
use Rattle.es_using_heads.specs.Laws.{LawOneHeaded}
use Rattle.es_using_heads.proofs.HeadCounts.{fields-more, here-more, trees-more}

-- WHERE THE SAME IS MADE for each number below a bound, up to it a tree becomes the same

-- what is made with one number
abbrev at_number : Makes → ℕ → Makes
at_number m n = record { name = λ i p. m.name n p; label = λ p texts. m.label p texts; block = λ p. m.block p }

module _ (bound : ℕ) (m m' : Makes) (same : MakeSame bound m m') where
  there : (n : ℕ) → n < bound → at_number m' n ≡ at_number m n
  there n lt = λ i. record { name = λ k p. same.name n p lt i; label = λ p texts. same.label p texts i; block = λ p. same.block p i }

  head-same : (n : ℕ) (fs : Fields) → n < bound → headed_fields m' n fs ≡ headed_fields m n fs
  head-same n (one (node VariableDeclaration l (many (node VariableDeclarator k (one x then missing then done) before empty) then done)) then one e then one b then done) lt =
      λ i. headed_fields (there n lt i) n (one (node VariableDeclaration l (many (node VariableDeclarator k (one x then missing then done) before empty) then done)) then one e then one b then done)
  head-same n _ lt = refl

  abbrev UpTo : ℕ × Tree → Type 0
  UpTo r = r.0 ≤ bound

  here-same : (n : ℕ) (k : AstType) (l : Label) (fs : Fields) → (headed_here m n k l fs).0 ≤ bound → headed_here m' n k l fs ≡ headed_here m n k l fs
  here-same n k l fs le = at (moves_using k l fs) le
    where
      at : (c : Bool) → UpTo (if c then (suc n, node k l (headed_fields m n fs)) else (n, node k l fs)) → ◌≡◌ {A = ℕ × Tree} (if c then (suc n, node k l (headed_fields m' n fs)) else (n, node k l fs)) (if c then (suc n, node k l (headed_fields m n fs)) else (n, node k l fs))
      at true h = λ i. (suc n, node k l (head-same n fs (omega (arith, h)) i))
      at false h = refl

  mutual
    tree-same : (n : ℕ) (t : Tree) → (headed m n t).0 ≤ bound → headed m' n t ≡ headed m n t
    tree-same n (node k l fs) le =
        let inner : (headed_in m n fs).0 ≤ bound = omega (arith, le, here-more m (headed_in m n fs).0 k l (headed_in m n fs).1) in
        ap (λ (r : ℕ × Fields). headed_here m' r.0 k l r.1) (fields-same n fs inner) ∙ here-same (headed_in m n fs).0 k l (headed_in m n fs).1 le

    fields-same : (n : ℕ) (fs : Fields) → (headed_in m n fs).0 ≤ bound → headed_in m' n fs ≡ headed_in m n fs
    fields-same n done le = refl
    fields-same n (f then fs) le =
        let first : (headed_by m n f).0 ≤ bound = omega (arith, le, fields-more m (headed_by m n f).0 fs) in
        ap (λ (r : ℕ × Field). ((headed_in m' r.0 fs).0, r.1 then (headed_in m' r.0 fs).1)) (field-same n f first) ∙ ap (λ (r : ℕ × Fields). (r.0, (headed_by m n f).1 then r.1)) (fields-same (headed_by m n f).0 fs le)

    field-same : (n : ℕ) (f : Field) → (headed_by m n f).0 ≤ bound → headed_by m' n f ≡ headed_by m n f
    field-same n missing le = refl
    field-same n (one t) le = ap (λ (r : ℕ × Tree). (r.0, one r.1)) (tree-same n t le)
    field-same n (many ts) le = ap (λ (r : ℕ × Trees). (r.0, many r.1)) (trees-same n ts le)
    field-same n (statements ts) le = ap (λ (r : ℕ × Trees). (r.0, statements r.1)) (trees-same n ts le)

    trees-same : (n : ℕ) (ts : Trees) → (headed_among m n ts).0 ≤ bound → headed_among m' n ts ≡ headed_among m n ts
    trees-same n empty le = refl
    trees-same n (t before ts) le =
        let first : (headed m n t).0 ≤ bound = omega (arith, le, trees-more m (headed m n t).0 ts) in
        ap (λ (r : ℕ × Tree). ((headed_among m' r.0 ts).0, r.1 before (headed_among m' r.0 ts).1)) (tree-same n t first) ∙ ap (λ (r : ℕ × Trees). (r.0, (headed m n t).1 before r.1)) (trees-same (headed m n t).0 ts le)

-- NAMES agree, one after the other

module _ (in_use : Text → Bool) (names others : List Text) where
  abbrev m : Makes
  m = plainly names

  abbrev m' : Makes
  m' = plainly others

  abbrev AgreeTo : ℕ → Type 0
  AgreeTo n = (i : ℕ) → i < n → name_of others i ≡ name_of names i

  same-made : (n : ℕ) → AgreeTo n → MakeSame n m m'
  same-made n agree = record { name = λ i t lt. ap (λ x. plain_name x t) (agree i lt); label = λ t texts. refl; block = λ t. refl }

  same-first : (n : ℕ) → AgreeTo n → with_first others n in_use ≡ with_first names n in_use
  same-first zero agree = refl
  same-first (suc n) agree = let before_it = same-first n (λ j lt. agree j (omega (arith, lt))) in λ i. also (agree n (omega arith) i) (before_it i)

  one-more : (n : ℕ) → AgreeTo n → name_of others n ≡ name_of names n → AgreeTo (suc n)
  one-more n agree e i lt = at (cases_lt i n)
    where
      at : (i < n) ⊎ (n ≤ i) → name_of others i ≡ name_of names i
      at (inl h) = agree i h
      at (inr h) = let it : n ≡ i = omega (arith, lt, h) in subst (λ (j : ℕ). name_of others j ≡ name_of names j) it e

  abbrev AgreeAt : ℕ × Tree → Type 0
  AgreeAt r = AgreeTo r.0

  here-agree : (n : ℕ) (k : AstType) (l : Label) (fs : Fields) → FreshHere m in_use names n k l fs → FreshHere m' in_use others n k l fs → AgreeTo n → AgreeTo (headed_here m n k l fs).0
  here-agree n k l fs a b agree = at (moves_using k l fs) refl
    where
      at : (c : Bool) → moves_using k l fs ≡ c → AgreeAt (if c then (suc n, node k l (headed_fields m n fs)) else (n, node k l fs))
      at true e =
          let other = subst (λ (u : Text → Bool). IsFreshName u (head_base fs) (name_of others n)) (same-first n agree) (b e) in
          one-more n agree (one-fresh (with_first names n in_use) (head_base fs) (name_of others n) (name_of names n) other (a e))
      at false e = agree

  mutual
    tree-agree : (n : ℕ) (t : Tree) → Fresh m in_use names n t → Fresh m' in_use others n t → AgreeTo n → AgreeTo (headed m n t).0
    tree-agree n (node k l fs) a b agree =
        let j : ℕ = (headed_in m n fs).0 in
        let inner = fields-agree n fs a.0 b.0 agree in
        let same = fields-same j m m' (same-made j inner) n fs (omega arith) in
        here-agree j k l (headed_in m n fs).1 a.1 (subst (λ (r : ℕ × Fields). FreshHere m' in_use others r.0 k l r.1) same b.1) inner

    fields-agree : (n : ℕ) (fs : Fields) → FreshIn m in_use names n fs → FreshIn m' in_use others n fs → AgreeTo n → AgreeTo (headed_in m n fs).0
    fields-agree n done a b agree = agree
    fields-agree n (f then fs) a b agree =
        let j : ℕ = (headed_by m n f).0 in
        let first = field-agree n f a.0 b.0 agree in
        let same = field-same j m m' (same-made j first) n f (omega arith) in
        fields-agree j fs a.1 (subst (λ (r : ℕ × Field). FreshIn m' in_use others r.0 fs) same b.1) first

    field-agree : (n : ℕ) (f : Field) → FreshBy m in_use names n f → FreshBy m' in_use others n f → AgreeTo n → AgreeTo (headed_by m n f).0
    field-agree n missing a b agree = agree
    field-agree n (one t) a b agree = tree-agree n t a b agree
    field-agree n (many ts) a b agree = trees-agree n ts a b agree
    field-agree n (statements ts) a b agree = trees-agree n ts a b agree

    trees-agree : (n : ℕ) (ts : Trees) → FreshAmong m in_use names n ts → FreshAmong m' in_use others n ts → AgreeTo n → AgreeTo (headed_among m n ts).0
    trees-agree n empty a b agree = agree
    trees-agree n (t before ts) a b agree =
        let j : ℕ = (headed m n t).0 in
        let first = tree-agree n t a.0 b.0 agree in
        let same = tree-same j m m' (same-made j first) n t (omega arith) in
        trees-agree j ts a.1 (subst (λ (r : ℕ × Tree). FreshAmong m' in_use others r.0 ts) same b.1) first

pub law_one_headed_proof : LawOneHeaded
law_one_headed_proof in_use p q r names others a b =
    let m : Makes = plainly names in
    let end : ℕ = (headed m 0 p).0 in
    let agree = tree-agree in_use names others 0 p a.fresh b.fresh (λ i lt. absurd (omega (arith, lt))) in
    let so : headed (plainly others) 0 p ≡ headed m 0 p = tree-same end m (plainly others) (same-made in_use names others end agree) 0 p (omega arith) in
    let count : length names ≡ length others = sym a.count ∙ sym (ap (λ (z : ℕ × Tree). z.0) so) ∙ b.count in
    (a.tree ∙ sym (ap (λ (z : ℕ × Tree). z.1) so) ∙ sym b.tree, same-lists names others count (λ i lt. agree i (omega (arith, lt, a.count))))
