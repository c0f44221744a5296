-- Statements before the first one that is no import: what is seen of them, sums over them, and tests of them.
use Rattle.std.proofs.Common.{◌≡◌, ◌∙◌, ℕ, zero, suc, ◌+◌, ◌≤◌, refl, sym, ap, List, [], ◌∷◌, ◌++◌, length, take, drop, append-nil, arith, Option, Some, None}
use Rattle.std.specs.Prelude.{Bool, true, false, ◌||◌, if◌then◌else◌, insert, codes}
use Rattle.es_tree.specs.Tree.{Tree, node, Label, Fields, Trees, empty, ◌before◌, trees}
use Rattle.es_tree.specs.Walks.{any_node, any_in_fields, any_in_trees}
use Rattle.es_tree.specs.Words.{Text}
use Rattle.es_tree.specs.declared.ast_type.AstType.{AstType}
use Rattle.es_resolution.specs.Seen.{seen, seen_among}
use Rattle.es_steps.specs.Nodes.{joined_trees}
use Rattle.es_steps.specs.Open.{Pending, after_imports, declaration, is_import, no_additions, whole_list, written}
use Rattle.es_visit.specs.Counts.{Measure, total, total_among}
use Rattle.es_traverse.specs.Laws.{is_construct}
use Rattle.es_traverse.specs.Listed.{any_among}
use Rattle.lower_temporaries.specs.Declarators.{declaration_of}
use Rattle.lower_temporaries.specs.SeenTrees.{IsSeenAsOption}
use Rattle.lower_writing.specs.Lists.{imports_before, listed, with_statement}
use Rattle.lower_writing.proofs.ImportPlaces.{imports-within}

-- AS LISTS

abbrev put : List Tree → ℕ → List Tree → List Tree
put bs k ts = take k ts ++ (bs ++ drop k ts)

whole : (k : ℕ) (ts : List Tree) → ts ≡ take k ts ++ drop k ts
whole zero [] = refl
whole zero (t ∷ ts) = refl
whole (suc k) [] = refl
whole (suc k) (t ∷ ts) = ap (λ us. t ∷ us) (whole k ts)

two : (v o : Tree) (k : ℕ) (ts : List Tree) → k ≤ length ts → insert (insert ts k o) k v ≡ put (v ∷ o ∷ []) k ts
two v o zero [] h = refl
two v o zero (t ∷ ts) h = refl
two v o (suc k) [] h = absurd (omega (arith, h))
two v o (suc k) (t ∷ ts) h = ap (λ us. t ∷ us) (two v o k ts (omega (arith, h)))

put-statements : (v o : Option Tree) (k : ℕ) (ts : List Tree) → k ≤ length ts → with_statement k v (with_statement k o ts) ≡ put (listed v ++ listed o) k ts
put-statements None None k ts h = whole k ts
put-statements None (Some o) k ts h = refl
put-statements (Some v) None k ts h = refl
put-statements (Some v) (Some o) k ts h = two v o k ts h

-- AS TREES

joined-append : (xs ys : List Tree) → trees (xs ++ ys) ≡ joined_trees (trees xs) (trees ys)
joined-append [] ys = refl
joined-append (x ∷ xs) ys = ap (λ ts. x before ts) (joined-append xs ys)

joined-none : (ts : Trees) → joined_trees ts empty ≡ ts
joined-none empty = refl
joined-none (t before ts) = ap (λ us. t before us) (joined-none ts)

put-by-import : (b : Bool) (bs : List Tree) (t : Tree) (ts : List Tree) → is_import t ≡ b → trees (put bs (imports_before ts) ts) ≡ after_imports (trees bs) (trees ts) →
    trees (put bs (if b then suc (imports_before ts) else 0) (t ∷ ts)) ≡ (if b then t before after_imports (trees bs) (trees ts) else joined_trees (trees bs) (t before trees ts))
put-by-import true bs t ts e h = ap (λ us. t before us) h
put-by-import false bs t ts e h = joined-append bs (t ∷ ts)

put-trees : (bs ts : List Tree) → trees (put bs (imports_before ts) ts) ≡ after_imports (trees bs) (trees ts)
put-trees bs [] = ap trees (append-nil bs)
put-trees bs (t ∷ ts) = put-by-import (is_import t) bs t ts refl (put-trees bs ts)

-- two statements, if there are any, before the first that is no import
pub put-after-imports : (v o : Option Tree) (ts : List Tree) → trees (with_statement (imports_before ts) v (with_statement (imports_before ts) o ts)) ≡ after_imports (trees (listed v ++ listed o)) (trees ts)
put-after-imports v o ts = ap trees (put-statements v o (imports_before ts) ts (imports-within ts)) ∙ put-trees (listed v ++ listed o) ts

pub put-twice : (v o : Option Tree) (k : ℕ) (ts mid us : List Tree) → k ≡ imports_before ts → mid ≡ with_statement k o ts → us ≡ with_statement k v mid → trees us ≡ after_imports (trees (listed v ++ listed o)) (trees ts)
put-twice v o k ts mid us e h g = ap trees (g ∙ ap (with_statement k v) h) ∙ ap (λ j. trees (with_statement j v (with_statement j o ts))) e ∙ put-after-imports v o ts

-- or at the head
pub put-first : (v o : Option Tree) (ts : List Tree) → trees (with_statement 0 v (with_statement 0 o ts)) ≡ joined_trees (trees (listed v ++ listed o)) (trees ts)
put-first v o ts = ap trees (put-statements v o 0 ts (omega arith) ∙ first ts) ∙ joined-append (listed v ++ listed o) ts
  where
    first : (ts : List Tree) → put (listed v ++ listed o) 0 ts ≡ (listed v ++ listed o) ++ ts
    first [] = refl
    first (t ∷ ts) = refl

-- WHAT IS SEEN

module _ (names : ℕ → Text → Option ℕ) where
  import-seen : (t : Tree) → is_import (seen names t) ≡ is_import t
  import-seen (node k l fs) = refl

  pub joined-seen : (bs ts : Trees) → seen_among names (joined_trees bs ts) ≡ joined_trees (seen_among names bs) (seen_among names ts)
  joined-seen empty ts = refl
  joined-seen (b before bs) ts = ap (λ us. seen names b before us) (joined-seen bs ts)

  after-by-import : (b : Bool) (bs : Trees) (t : Tree) (ts : Trees) → seen_among names (after_imports bs ts) ≡ after_imports (seen_among names bs) (seen_among names ts) →
      seen_among names (if b then t before after_imports bs ts else joined_trees bs (t before ts)) ≡ (if b then seen names t before after_imports (seen_among names bs) (seen_among names ts) else joined_trees (seen_among names bs) (seen names t before seen_among names ts))
  after-by-import true bs t ts h = ap (λ us. seen names t before us) h
  after-by-import false bs t ts h = joined-seen bs (t before ts)

  pub after-seen : (bs ts : Trees) → seen_among names (after_imports bs ts) ≡ after_imports (seen_among names bs) (seen_among names ts)
  after-seen bs empty = refl
  after-seen bs (t before ts) =
      after-by-import (is_import t) bs t ts (after-seen bs ts)
      ∙ ap (λ b. if b then seen names t before after_imports (seen_among names bs) (seen_among names ts) else joined_trees (seen_among names bs) (seen names t before seen_among names ts)) (sym (import-seen t))

  option-seen : (v w : Option Tree) → IsSeenAsOption v w → seen_among names (trees (listed v)) ≡ trees (listed w)
  option-seen None None h = refl
  option-seen None (Some w) h = absurd h
  option-seen (Some v) None h = absurd h
  option-seen (Some v) (Some w) h = ap (λ t. t before empty) (h names)

  declared-first : (kind : Text) (ds : List Tree) (ts : Trees) → joined_trees (trees (listed (declaration_of kind ds))) ts ≡ declaration kind ds ts
  declared-first kind [] ts = refl
  declared-first kind (d ∷ ds) ts = refl

  -- two declarations as they are seen are what is pending, written
  pub written-seen : (p : Pending) (v o : Option Tree) → IsSeenAsOption v (declaration_of (codes "var") p.vars) → IsSeenAsOption o (declaration_of (codes "let") p.lets) → seen_among names (trees (listed v ++ listed o)) ≡ written p empty
  written-seen p v o h k =
      ap (seen_among names) (joined-append (listed v) (listed o)) ∙ joined-seen (trees (listed v)) (trees (listed o))
      ∙ (λ i. joined_trees (option-seen v (declaration_of (codes "var") p.vars) h i) (option-seen o (declaration_of (codes "let") p.lets) k i))
      ∙ ap (λ us. joined_trees (trees (listed (declaration_of (codes "var") p.vars))) us) (sym (joined-none (trees (listed (declaration_of (codes "let") p.lets)))) ∙ declared-first (codes "let") p.lets empty)
      ∙ declared-first (codes "var") p.vars (declaration (codes "let") p.lets empty)

  -- so what is written for a list is seen before its first statement that is no import
  pub whole-seen : (p : Pending) (v o : Option Tree) (ts us : List Tree) → IsSeenAsOption v (declaration_of (codes "var") p.vars) → IsSeenAsOption o (declaration_of (codes "let") p.lets) → trees us ≡ after_imports (trees (listed v ++ listed o)) (trees ts) →
      seen_among names (trees us) ≡ whole_list p None no_additions (seen_among names (trees ts))
  whole-seen p v o ts us h k e = ap (seen_among names) e ∙ after-seen (trees (listed v ++ listed o)) (trees ts) ∙ ap (λ bs. after_imports bs (seen_among names (trees ts))) (written-seen p v o h k)

-- SUMS

module _ (f : Trees → ℕ) (g : Tree → ℕ) (none : f empty ≡ 0) (step : (t : Tree) (ts : Trees) → f (t before ts) ≡ g t + f ts) where
  pub joined-sum : (bs ts : Trees) → f (joined_trees bs ts) ≡ f bs + f ts
  joined-sum empty ts = omega (arith, none)
  joined-sum (b before bs) ts = omega (arith, step b (joined_trees bs ts), step b bs, joined-sum bs ts)

  after-sum-by : (b : Bool) (bs : Trees) (t : Tree) (ts : Trees) → f (after_imports bs ts) ≡ f bs + f ts → f (if b then t before after_imports bs ts else joined_trees bs (t before ts)) ≡ f bs + f (t before ts)
  after-sum-by true bs t ts h = omega (arith, step t (after_imports bs ts), step t ts, h)
  after-sum-by false bs t ts h = joined-sum bs (t before ts)

  pub after-sum : (bs ts : Trees) → f (after_imports bs ts) ≡ f bs + f ts
  after-sum bs empty = omega (arith, none)
  after-sum bs (t before ts) = after-sum-by (is_import t) bs t ts (after-sum bs ts)

-- the ids of a list are kept where statements are put in
pub after-ids : (m : Measure) (bs ts us : Trees) → us ≡ after_imports bs ts → total_among m ts ≤ total_among m us
after-ids m bs ts us e =
    let all = ap (total_among m) e in
    let parts = after-sum (total_among m) (total m) refl (λ t vs. refl) bs ts in
    omega (arith, all, parts)

-- TESTS

or-false : (a b : Bool) → a ≡ false → b ≡ false → (a || b) ≡ false
or-false a b e d = rw (e, d) refl

left-false : (a b : Bool) → (a || b) ≡ false → a ≡ false
left-false false b h = refl
left-false true b h = h

right-false : (a b : Bool) → (a || b) ≡ false → b ≡ false
right-false false b h = h
right-false true b h = cc

-- a test of lists that passes where one of their trees does
module _ (f : Trees → Bool) (g : Tree → Bool) (step : (t : Tree) (ts : Trees) → f (t before ts) ≡ (g t || f ts)) where
  pub joined-free : (bs ts : Trees) → f bs ≡ false → f ts ≡ false → f (joined_trees bs ts) ≡ false
  joined-free empty ts h k = k
  joined-free (b before bs) ts h k =
      let first = sym (step b bs) ∙ h in
      step b (joined_trees bs ts) ∙ or-false _ _ (left-false (g b) (f bs) first) (joined-free bs ts (right-false (g b) (f bs) first) k)

  after-free-by : (b : Bool) (bs : Trees) (t : Tree) (ts : Trees) → f bs ≡ false → f (t before ts) ≡ false → (f ts ≡ false → f (after_imports bs ts) ≡ false) → f (if b then t before after_imports bs ts else joined_trees bs (t before ts)) ≡ false
  after-free-by true bs t ts h k rest =
      let parts = sym (step t ts) ∙ k in
      step t (after_imports bs ts) ∙ or-false _ _ (left-false (g t) (f ts) parts) (rest (right-false (g t) (f ts) parts))
  after-free-by false bs t ts h k rest = joined-free bs (t before ts) h k

  pub after-free : (bs ts : Trees) → f bs ≡ false → f ts ≡ false → f (after_imports bs ts) ≡ false
  after-free bs empty h k = h
  after-free bs (t before ts) h k = after-free-by (is_import t) bs t ts h k (λ d. after-free bs ts h d)

module _ (test : AstType → Label → Fields → Bool) where
  pub after-none : (bs ts : Trees) → any_in_trees test bs ≡ false → any_in_trees test ts ≡ false → any_in_trees test (after_imports bs ts) ≡ false
  after-none = after-free (any_in_trees test) (any_node test) (λ t ts. refl)

  -- the same of the trees themselves
  pub after-among : (bs ts : Trees) → any_among test bs ≡ false → any_among test ts ≡ false → any_among test (after_imports bs ts) ≡ false
  after-among = after-free (any_among test) (is_construct test) (λ t ts. refl)

  -- where no node is a construct, none of the trees is
  pub among-less : (ts : Trees) → any_in_trees test ts ≡ false → any_among test ts ≡ false
  among-less empty h = refl
  among-less (node k l fs before ts) h =
      or-false _ _ (left-false (test k l fs) (any_in_fields test fs) (left-false (any_node test (node k l fs)) (any_in_trees test ts) h)) (among-less ts (right-false (any_node test (node k l fs)) (any_in_trees test ts) h))
