-- What a program becomes by moving is told by its fresh names, and these are one by one the first that are not in use: so two programs that it
-- becomes are one.
use Rattle.std.proofs.Common.{◌≡◌, ◌∙◌, ◌≤◌, ◌<◌, ℕ, zero, suc, refl, sym, ap, arith, subst, inl, inr, length, List, [], ◌∷◌, true≢false}
use Rattle.std.specs.Prelude.{Bool, true, false, ◌+◌, ◌⊎◌, Option, Some, codes, if◌then◌else◌}
use Rattle.std.proofs.lemmas.Bool.{cases_lt, cases_order}
use Rattle.es_tree.specs.Fresh.{IsFreshName, also, candidate}
use Rattle.es_tree.specs.Names.{first_text}
use Rattle.es_tree.specs.Tree.{Tree, node, Label, Fields, done, ◌then◌, Field, missing, one, many, statements, Trees, empty, ◌before◌}
use Rattle.es_tree.specs.Words.{Text}
use Rattle.es_tree.specs.declared.ast_type.AstType.{AstType}
use Rattle.es_tree.specs.declared.ast_type.AstType.TheVariants.{ArrowFunctionExpression, AssignmentExpression, AssignmentPattern, BlockStatement, CatchClause, ExpressionStatement, ForInStatement, ForOfStatement, FunctionBody, FunctionDeclaration, FunctionExpression, ObjectTarget, ReturnStatement, VariableDeclaration, VariableDeclarator}
use Rattle.es_steps.specs.Nodes.{joined_trees}
use Rattle.es_pattern_moves.specs.Laws.{LawOneMoved}
use Rattle.es_pattern_moves.specs.Moved.{
  AreFresh,
  Makes,
  MovesTo,
  all_declared,
  all_named,
  count_arrow,
  count_function,
  count_here,
  count_rests,
  declares,
  moved,
  moved_among,
  moved_arrow,
  moved_by,
  moved_catch,
  moved_fields,
  moved_function,
  moved_head,
  moved_here,
  moved_in,
  name_of,
  named,
  plain_name,
  plainly,
  with_declared,
}
use Rattle.es_pattern_moves.specs.PatternMoves.{is_rest_parameter, moves_pattern, pattern_of}
use Rattle.es_pattern_moves.proofs.MovedCounts.{fields-more, here-more, trees-more}

-- WHERE THE SAME IS MADE for each number below a bound, up to it a tree becomes the same

pub record MakeSame (bound : ℕ) (m m' : Makes) : Type 0 where
  pub name : (i : ℕ) (p : Tree) → i < bound → m'.name i p ≡ m.name i p
  pub label : (p : Tree) (texts : List (Option Text)) → m'.label p texts ≡ m.label p texts
  pub block : (p : Tree) → m'.block p ≡ m.block p

module _ (bound : ℕ) (m m' : Makes) (same : MakeSame bound m m') where
  declares-same : (kind : Text) (n : ℕ) (p : Tree) → n < bound → declares m' kind n p ≡ declares m kind n p
  declares-same kind n p lt = λ i. node VariableDeclaration (same.label p (Some kind ∷ []) i) (many (node VariableDeclarator (same.label p [] i) (one p then one (same.name n p lt i) then done) before empty) then done)

  named-same : (n : ℕ) (t : Tree) → n < bound → named m' n t ≡ named m n t
  named-same n (node AssignmentPattern l (one p then fs)) lt = λ i. node AssignmentPattern l (one (same.name n p lt i) then fs)
  named-same n (node k l fs) lt = same.name n (node k l fs) lt

  all-named-same : (n : ℕ) (ts : Trees) → n + count_rests ts ≤ bound → all_named m' n ts ≡ all_named m n ts
  all-named-same n empty le = refl
  all-named-same n (t before ts) le = at (is_rest_parameter t) (λ h. all-named-same n ts h) (λ h. all-named-same (suc n) ts h) le
    where
      at : (c : Bool) → (n + count_rests ts ≤ bound → all_named m' n ts ≡ all_named m n ts) → (suc n + count_rests ts ≤ bound → all_named m' (suc n) ts ≡ all_named m (suc n) ts) → n + (if c then suc (count_rests ts) else count_rests ts) ≤ bound →
          (if c then named m' n t before all_named m' (suc n) ts else t before all_named m' n ts) ≡ (if c then named m n t before all_named m (suc n) ts else t before all_named m n ts)
      at true e d h = let rest = d (omega (arith, h)) in λ i. named-same n t (omega (arith, h)) i before rest i
      at false e d h = ap (λ us. t before us) (e h)

  all-declared-same : (n : ℕ) (ts : Trees) → n + count_rests ts ≤ bound → all_declared m' n ts ≡ all_declared m n ts
  all-declared-same n empty le = refl
  all-declared-same n (t before ts) le = at (is_rest_parameter t) (λ h. all-declared-same n ts h) (λ h. all-declared-same (suc n) ts h) le
    where
      at : (c : Bool) → (n + count_rests ts ≤ bound → all_declared m' n ts ≡ all_declared m n ts) → (suc n + count_rests ts ≤ bound → all_declared m' (suc n) ts ≡ all_declared m (suc n) ts) → n + (if c then suc (count_rests ts) else count_rests ts) ≤ bound →
          (if c then declares m' (codes "let") n (pattern_of t) before all_declared m' (suc n) ts else all_declared m' n ts) ≡ (if c then declares m (codes "let") n (pattern_of t) before all_declared m (suc n) ts else all_declared m n ts)
      at true e d h = let rest = d (omega (arith, h)) in λ i. declares-same (codes "let") n (pattern_of t) (omega (arith, h)) i before rest i
      at false e d h = e h

  body-same : (n : ℕ) (ps : Trees) (b : Tree) → n + count_rests ps ≤ bound → with_declared m' n ps b ≡ with_declared m n ps b
  body-same n ps (node FunctionBody l (many ds then statements ts then done)) le = λ i. node FunctionBody l (many ds then statements (joined_trees (all-declared-same n ps le i) ts) then done)
  body-same n ps e le = λ i. node FunctionBody (same.block e i) (many empty then statements (joined_trees (all-declared-same n ps le i) (node ReturnStatement (same.label e [] i) (one e then done) before empty)) then done)

  function-same : (n : ℕ) (fs : Fields) → n + count_function fs ≤ bound → moved_function m' n fs ≡ moved_function m n fs
  function-same n (f then many ps then one b then done) le = λ i. f then many (all-named-same n ps le i) then one (body-same n ps b le i) then done
  function-same n _ le = refl

  arrow-same : (n : ℕ) (fs : Fields) → n + count_arrow fs ≤ bound → moved_arrow m' n fs ≡ moved_arrow m n fs
  arrow-same n (many ps then one b then done) le = λ i. many (all-named-same n ps le i) then one (body-same n ps b le i) then done
  arrow-same n _ le = refl

  catch-same : (n : ℕ) (fs : Fields) → n < bound → moved_catch m' n fs ≡ moved_catch m n fs
  catch-same n (one p then one b then done) lt = λ i. one (same.name n p lt i) then one (node BlockStatement (same.block p i) (statements (declares-same (codes "let") n p lt i before b before empty) then done)) then done
  catch-same n _ lt = refl

  head-same : (n : ℕ) (fs : Fields) → n < bound → moved_head m' n fs ≡ moved_head m n fs
  head-same n (one (node VariableDeclaration l (many (node VariableDeclarator l' (one p then missing then done) before empty) then done)) then one e then one b then done) lt =
      λ i.
      one (node VariableDeclaration (same.label p (Some (first_text l.texts) ∷ []) i) (many (node VariableDeclarator (same.label p [] i) (one (same.name n p lt i) then missing then done) before empty) then done)) then one e
      then one (node BlockStatement (same.block p i) (statements (declares-same (first_text l.texts) n p lt i before b before empty) then done)) then done
  head-same n (one (node ObjectTarget l gs) then one e then one b then done) lt =
      let t : Tree = node ObjectTarget l gs in
      λ i.
      one (node VariableDeclaration (same.label t (Some (codes "var") ∷ []) i) (many (node VariableDeclarator (same.label t [] i) (one (same.name n t lt i) then missing then done) before empty) then done)) then one e
      then one (node BlockStatement (same.block t i) (statements (node ExpressionStatement (same.label t [] i) (one (node AssignmentExpression (same.label t (Some (codes "=") ∷ []) i) (one t then one (same.name n t lt i) then done)) then done) before b before empty) then done)) then done
  head-same n _ lt = refl

  moving : (n : ℕ) (k : AstType) (fs : Fields) → n + count_here k fs ≤ bound → moved_fields m' n k fs ≡ moved_fields m n k fs
  moving n CatchClause fs le = catch-same n fs (omega (arith, le))
  moving n ForInStatement fs le = head-same n fs (omega (arith, le))
  moving n ForOfStatement fs le = head-same n fs (omega (arith, le))
  moving n FunctionDeclaration fs le = function-same n fs le
  moving n FunctionExpression fs le = function-same n fs le
  moving n ArrowFunctionExpression fs le = arrow-same n fs le
  moving n _ fs le = refl

  abbrev UpTo : ℕ × Tree → Type 0
  UpTo r = r.0 ≤ bound

  here-same : (n : ℕ) (k : AstType) (l : Label) (fs : Fields) → (moved_here m n k l fs).0 ≤ bound → moved_here m' n k l fs ≡ moved_here m n k l fs
  here-same n k l fs le = at (moves_pattern k l fs) le
    where
      at : (c : Bool) → UpTo (if c then (n + count_here k fs, node k l (moved_fields m n k fs)) else (n, node k l fs)) →
          ◌≡◌ {A = ℕ × Tree} (if c then (n + count_here k fs, node k l (moved_fields m' n k fs)) else (n, node k l fs)) (if c then (n + count_here k fs, node k l (moved_fields m n k fs)) else (n, node k l fs))
      at true h = λ i. (n + count_here k fs, node k l (moving n k fs h i))
      at false h = refl

  mutual
    pub tree-same : (n : ℕ) (t : Tree) → (moved m n t).0 ≤ bound → moved m' n t ≡ moved m n t
    tree-same n (node k l fs) le =
        let inner : (moved_in m n fs).0 ≤ bound = omega (arith, le, here-more m (moved_in m n fs).0 k l (moved_in m n fs).1) in
        ap (λ (r : ℕ × Fields). moved_here m' r.0 k l r.1) (fields-same n fs inner) ∙ here-same (moved_in m n fs).0 k l (moved_in m n fs).1 le

    fields-same : (n : ℕ) (fs : Fields) → (moved_in m n fs).0 ≤ bound → moved_in m' n fs ≡ moved_in m n fs
    fields-same n done le = refl
    fields-same n (f then fs) le =
        let first : (moved_by m n f).0 ≤ bound = omega (arith, le, fields-more m (moved_by m n f).0 fs) in
        ap (λ (r : ℕ × Field). ((moved_in m' r.0 fs).0, r.1 then (moved_in m' r.0 fs).1)) (field-same n f first) ∙ ap (λ (r : ℕ × Fields). (r.0, (moved_by m n f).1 then r.1)) (fields-same (moved_by m n f).0 fs le)

    field-same : (n : ℕ) (f : Field) → (moved_by m n f).0 ≤ bound → moved_by m' n f ≡ moved_by m n f
    field-same n missing le = refl
    field-same n (one t) le = ap (λ (r : ℕ × Tree). (r.0, one r.1)) (tree-same n t le)
    field-same n (many ts) le = ap (λ (r : ℕ × Trees). (r.0, many r.1)) (trees-same n ts le)
    field-same n (statements ts) le = ap (λ (r : ℕ × Trees). (r.0, statements r.1)) (trees-same n ts le)

    trees-same : (n : ℕ) (ts : Trees) → (moved_among m n ts).0 ≤ bound → moved_among m' n ts ≡ moved_among m n ts
    trees-same n empty le = refl
    trees-same n (t before ts) le =
        let first : (moved m n t).0 ≤ bound = omega (arith, le, trees-more m (moved m n t).0 ts) in
        ap (λ (r : ℕ × Tree). ((moved_among m' r.0 ts).0, r.1 before (moved_among m' r.0 ts).1)) (tree-same n t first) ∙ ap (λ (r : ℕ × Trees). (r.0, (moved m n t).1 before r.1)) (trees-same (moved m n t).0 ts le)

-- FRESH NAMES

module _ (in_use : Text → Bool) (base x y : Text) (a : IsFreshName in_use base x) (b : IsFreshName in_use base y) where
  not-below : a.number < b.number → ⊥
  not-below lt = true≢false (sym (b.first a.number lt) ∙ ap in_use (sym a.name) ∙ a.free)

  not-above : b.number < a.number → ⊥
  not-above lt = true≢false (sym (a.first b.number lt) ∙ ap in_use (sym b.name) ∙ b.free)

  pub one-fresh : x ≡ y
  one-fresh = at (cases_order a.number b.number)
    where
      at : (a.number ≡ b.number) ⊎ ((a.number < b.number) ⊎ (b.number < a.number)) → x ≡ y
      at (inl e) = a.name ∙ ap (λ n. candidate base n) e ∙ sym b.name
      at (inr (inl lt)) = absurd (not-below lt)
      at (inr (inr lt)) = absurd (not-above lt)

-- lists of such names, in each of which a name counts as in use after it
module _ (base : Text) (Fresh : (Text → Bool) → List Text → Type 0) (parts : (u : Text → Bool) (x : Text) (xs : List Text) → Fresh u (x ∷ xs) → IsFreshName u base x × Fresh (also x u) xs) where
  pub fresh-agree : (u : Text → Bool) (xs ys : List Text) → Fresh u xs → Fresh u ys → (i : ℕ) → i < length xs → i < length ys → name_of ys i ≡ name_of xs i
  fresh-agree u [] ys a b i lt gt = absurd (omega (arith, lt))
  fresh-agree u (x ∷ xs) [] a b i lt gt = absurd (omega (arith, gt))
  fresh-agree u (x ∷ xs) (y ∷ ys) a b zero lt gt = one-fresh u base y x (parts u y ys b).0 (parts u x xs a).0
  fresh-agree u (x ∷ xs) (y ∷ ys) a b (suc i) lt gt =
      fresh-agree (also x u) xs ys (parts u x xs a).1 (subst (λ (z : Text). Fresh (also z u) ys) (one-fresh u base y x (parts u y ys b).0 (parts u x xs a).0) (parts u y ys b).1) i (omega (arith, lt)) (omega (arith, gt))

pub same-lists : (xs ys : List Text) → length xs ≡ length ys → ((i : ℕ) → i < length xs → name_of ys i ≡ name_of xs i) → xs ≡ ys
same-lists [] [] e h = refl
same-lists [] (y ∷ ys) e h = absurd (omega (arith, e))
same-lists (x ∷ xs) [] e h = absurd (omega (arith, e))
same-lists (x ∷ xs) (y ∷ ys) e h = let rest = same-lists xs ys (omega (arith, e)) (λ i lt. h (suc i) (omega (arith, lt))) in λ i. sym (h 0 (omega arith)) i ∷ rest i

-- of two things that are made with names, the one with no more names may come first
pub either-first : (Made : Tree → List Text → Type 0) → ((q r : Tree) (names others : List Text) → Made q names → Made r others → length names ≤ length others → (q ≡ r) × (names ≡ others)) →
    (q r : Tree) (names others : List Text) → Made q names → Made r others → (q ≡ r) × (names ≡ others)
either-first Made no-longer q r names others a b = at (cases_lt (length names) (length others))
  where
    at : (length names < length others) ⊎ (length others ≤ length names) → (q ≡ r) × (names ≡ others)
    at (inl lt) = no-longer q r names others a b (omega (arith, lt))
    at (inr le) = let same = no-longer r q others names b a le in (sym same.0, sym same.1)

-- A PROGRAM

module _ (in_use : Text → Bool) (p q r : Tree) (names others : List Text) (a : MovesTo in_use p q names) (b : MovesTo in_use p r others) where
  no-longer : length names ≤ length others → (q ≡ r) × (names ≡ others)
  no-longer le =
      let agree : (i : ℕ) → i < length names → name_of others i ≡ name_of names i = λ i lt. fresh-agree (codes "ref") AreFresh (λ u x xs h. h) in_use names others a.fresh b.fresh i lt (omega (arith, lt, le)) in
      let made : MakeSame (length names) (plainly names) (plainly others) = record { name = λ i t lt. ap (λ x. plain_name x t) (agree i lt); label = λ t texts. refl; block = λ t. refl } in
      let so : moved (plainly others) 0 p ≡ moved (plainly names) 0 p = tree-same (length names) (plainly names) (plainly others) made 0 p (omega (arith, a.count)) in
      let count : length names ≡ length others = sym a.count ∙ sym (ap (λ (z : ℕ × Tree). z.0) so) ∙ b.count in
      (a.tree ∙ sym (ap (λ (z : ℕ × Tree). z.1) so) ∙ sym b.tree, same-lists names others count agree)

pub law_one_moved_proof : LawOneMoved
law_one_moved_proof in_use p q r names others a b = either-first (λ t ts. MovesTo in_use p t ts) (λ q r names others a b le. no-longer in_use p q r names others a b le) q r names others a b
