-- The visits of fields and of lists, one more at a time: their scopes, their references and their marks.
use Rattle.std.proofs.Common.{◌≡◌, ℕ, zero, suc, ◌+◌, ◌<◌, ◌≤◌, List, [], ◌∷◌, ◌++◌, length, get_or, set, refl, sym, ap, ◌∙◌, append_assoc, arith}
use Rattle.es_tree.specs.Tree.{Tree, Fields, done, ◌then◌, Trees, empty, ◌before◌, trees}
use Rattle.es_tree.specs.Views.{plain_field, plain_fields}
use Rattle.es_tree.specs.declared.node.Field.{Field as NodeField}
use Rattle.es_semantic.specs.Places.{Place, Visit, scope_count_in, scope_count_in_field, scope_count_in_fields, scope_count_in_trees, visits, visits_in_field, visits_in_fields, visits_in_trees}
use Rattle.es_semantic.specs.ReferencesOf.{marked_in_field, marked_in_fields, marked_in_trees, marked_tree, own_reference, references_among}
use Rattle.es_semantic.specs.SymbolsOf.{Declared}

-- TWO LISTS OF VISITS

pub references_joined : (ds : List Declared) (vs ws : List Visit) → references_among ds (vs ++ ws) ≡ references_among ds vs ++ references_among ds ws
references_joined ds [] ws = refl
references_joined ds (v ∷ vs) ws = ap (λ rs. own_reference ds v.place v.kind v.label ++ rs) (references_joined ds vs ws) ∙ sym (append_assoc (own_reference ds v.place v.kind v.label) (references_among ds vs) (references_among ds ws))

-- FIELDS

-- the visits of the fields from i on
abbrev pub rest_visits : (ℕ → Place) → ℕ → ℕ → List NodeField → List Visit
rest_visits ps n zero xs = visits_in_fields ps n (plain_fields xs)
rest_visits ps n (suc i) [] = []
rest_visits ps n (suc i) (x ∷ xs) = rest_visits (λ k. ps (suc k)) n i xs

-- how many scopes they have
abbrev pub rest_count : ℕ → List NodeField → ℕ
rest_count zero xs = scope_count_in_fields (plain_fields xs)
rest_count (suc i) [] = 0
rest_count (suc i) (x ∷ xs) = rest_count i xs

-- the first i fields as they are, the others with their marks
abbrev pub rest_marked : List Declared → (ℕ → Place) → ℕ → ℕ → ℕ → List NodeField → Fields
rest_marked ds ps n m zero xs = marked_in_fields ds ps n m (plain_fields xs)
rest_marked ds ps n m (suc i) [] = done
rest_marked ds ps n m (suc i) (x ∷ xs) = plain_field x then rest_marked ds (λ k. ps (suc k)) n m i xs

pub rest_visits-more : (ps : ℕ → Place) (n n' : ℕ) (i : ℕ) (xs : List NodeField) (x y : NodeField) → i < length xs → x ≡ get_or xs i x → n' ≡ n + scope_count_in_field (plain_field x) →
    rest_visits ps n i xs ≡ visits_in_field (ps i) n (plain_field x) ++ rest_visits ps n' (suc i) (set xs i y)
rest_visits-more ps n n' i [] x y l e h = absurd (omega (arith, l))
rest_visits-more ps n n' zero (z ∷ zs) x y l e h = rw (h, e) refl
rest_visits-more ps n n' (suc i) (z ∷ zs) x y l e h = rest_visits-more (λ k. ps (suc k)) n n' i zs x y (omega (arith, l)) e h

pub rest_count-more : (i : ℕ) (xs : List NodeField) (x y : NodeField) → i < length xs → x ≡ get_or xs i x → rest_count i xs ≡ scope_count_in_field (plain_field x) + rest_count (suc i) (set xs i y)
rest_count-more i [] x y l e = absurd (omega (arith, l))
rest_count-more zero (z ∷ zs) x y l e = rw e refl
rest_count-more (suc i) (z ∷ zs) x y l e = rest_count-more i zs x y (omega (arith, l)) e

pub rest_marked-more : (ds : List Declared) (ps : ℕ → Place) (n n' m m' : ℕ) (i : ℕ) (xs : List NodeField) (x y : NodeField) → i < length xs → x ≡ get_or xs i x → n' ≡ n + scope_count_in_field (plain_field x) → plain_field y ≡ marked_in_field ds (ps i) n m (plain_field x) → m' ≡ m + length (references_among ds (visits_in_field (ps i) n (plain_field x))) →
    rest_marked ds ps n' m' (suc i) (set xs i y) ≡ rest_marked ds ps n m i xs
rest_marked-more ds ps n n' m m' i [] x y l e g h k = absurd (omega (arith, l))
rest_marked-more ds ps n n' m m' zero (z ∷ zs) x y l e g h k = rw (h, k, g, e) refl
rest_marked-more ds ps n n' m m' (suc i) (z ∷ zs) x y l e g h k = ap (λ fs. plain_field z then fs) (rest_marked-more ds (λ j. ps (suc j)) n n' m m' i zs x y (omega (arith, l)) e g h k)

pub rest_visits-none : (ps : ℕ → Place) (n : ℕ) (i : ℕ) (xs : List NodeField) → length xs ≤ i → rest_visits ps n i xs ≡ []
rest_visits-none ps n zero [] l = refl
rest_visits-none ps n (suc i) [] l = refl
rest_visits-none ps n zero (x ∷ xs) l = absurd (omega (arith, l))
rest_visits-none ps n (suc i) (x ∷ xs) l = rest_visits-none (λ k. ps (suc k)) n i xs (omega (arith, l))

pub rest_count-none : (i : ℕ) (xs : List NodeField) → length xs ≤ i → rest_count i xs ≡ 0
rest_count-none zero [] l = refl
rest_count-none (suc i) [] l = refl
rest_count-none zero (x ∷ xs) l = absurd (omega (arith, l))
rest_count-none (suc i) (x ∷ xs) l = rest_count-none i xs (omega (arith, l))

pub rest_marked-all : (ds : List Declared) (ps : ℕ → Place) (n m : ℕ) (i : ℕ) (xs : List NodeField) → length xs ≤ i → rest_marked ds ps n m i xs ≡ plain_fields xs
rest_marked-all ds ps n m zero [] l = refl
rest_marked-all ds ps n m (suc i) [] l = refl
rest_marked-all ds ps n m zero (x ∷ xs) l = absurd (omega (arith, l))
rest_marked-all ds ps n m (suc i) (x ∷ xs) l = ap (λ fs. plain_field x then fs) (rest_marked-all ds (λ k. ps (suc k)) n m i xs (omega (arith, l)))

-- TREES

-- the visits of the trees from i on
abbrev pub rest_tree_visits : Place → ℕ → ℕ → List Tree → List Visit
rest_tree_visits p n zero xs = visits_in_trees p n (trees xs)
rest_tree_visits p n (suc i) [] = []
rest_tree_visits p n (suc i) (x ∷ xs) = rest_tree_visits p n i xs

-- how many scopes they have
abbrev pub rest_tree_count : ℕ → List Tree → ℕ
rest_tree_count zero xs = scope_count_in_trees (trees xs)
rest_tree_count (suc i) [] = 0
rest_tree_count (suc i) (x ∷ xs) = rest_tree_count i xs

-- the first i trees as they are, the others with their marks
abbrev pub rest_marked_trees : List Declared → Place → ℕ → ℕ → ℕ → List Tree → Trees
rest_marked_trees ds p n m zero xs = marked_in_trees ds p n m (trees xs)
rest_marked_trees ds p n m (suc i) [] = empty
rest_marked_trees ds p n m (suc i) (x ∷ xs) = x before rest_marked_trees ds p n m i xs

pub rest_tree_visits-more : (p : Place) (n n' : ℕ) (i : ℕ) (xs : List Tree) (x y : Tree) → i < length xs → x ≡ get_or xs i x → n' ≡ n + scope_count_in x →
    rest_tree_visits p n i xs ≡ visits p n x ++ rest_tree_visits p n' (suc i) (set xs i y)
rest_tree_visits-more p n n' i [] x y l e h = absurd (omega (arith, l))
rest_tree_visits-more p n n' zero (z ∷ zs) x y l e h = rw (h, e) refl
rest_tree_visits-more p n n' (suc i) (z ∷ zs) x y l e h = rest_tree_visits-more p n n' i zs x y (omega (arith, l)) e h

pub rest_tree_count-more : (i : ℕ) (xs : List Tree) (x y : Tree) → i < length xs → x ≡ get_or xs i x → rest_tree_count i xs ≡ scope_count_in x + rest_tree_count (suc i) (set xs i y)
rest_tree_count-more i [] x y l e = absurd (omega (arith, l))
rest_tree_count-more zero (z ∷ zs) x y l e = rw e refl
rest_tree_count-more (suc i) (z ∷ zs) x y l e = rest_tree_count-more i zs x y (omega (arith, l)) e

pub rest_marked_trees-more : (ds : List Declared) (p : Place) (n n' m m' : ℕ) (i : ℕ) (xs : List Tree) (x y : Tree) → i < length xs → x ≡ get_or xs i x → n' ≡ n + scope_count_in x → y ≡ marked_tree ds p n m x → m' ≡ m + length (references_among ds (visits p n x)) →
    rest_marked_trees ds p n' m' (suc i) (set xs i y) ≡ rest_marked_trees ds p n m i xs
rest_marked_trees-more ds p n n' m m' i [] x y l e g h k = absurd (omega (arith, l))
rest_marked_trees-more ds p n n' m m' zero (z ∷ zs) x y l e g h k = rw (h, k, g, e) refl
rest_marked_trees-more ds p n n' m m' (suc i) (z ∷ zs) x y l e g h k = ap (λ ts. z before ts) (rest_marked_trees-more ds p n n' m m' i zs x y (omega (arith, l)) e g h k)

pub rest_tree_visits-none : (p : Place) (n : ℕ) (i : ℕ) (xs : List Tree) → length xs ≤ i → rest_tree_visits p n i xs ≡ []
rest_tree_visits-none p n zero [] l = refl
rest_tree_visits-none p n (suc i) [] l = refl
rest_tree_visits-none p n zero (x ∷ xs) l = absurd (omega (arith, l))
rest_tree_visits-none p n (suc i) (x ∷ xs) l = rest_tree_visits-none p n i xs (omega (arith, l))

pub rest_tree_count-none : (i : ℕ) (xs : List Tree) → length xs ≤ i → rest_tree_count i xs ≡ 0
rest_tree_count-none zero [] l = refl
rest_tree_count-none (suc i) [] l = refl
rest_tree_count-none zero (x ∷ xs) l = absurd (omega (arith, l))
rest_tree_count-none (suc i) (x ∷ xs) l = rest_tree_count-none i xs (omega (arith, l))

pub rest_marked_trees-all : (ds : List Declared) (p : Place) (n m : ℕ) (i : ℕ) (xs : List Tree) → length xs ≤ i → rest_marked_trees ds p n m i xs ≡ trees xs
rest_marked_trees-all ds p n m zero [] l = refl
rest_marked_trees-all ds p n m (suc i) [] l = refl
rest_marked_trees-all ds p n m zero (x ∷ xs) l = absurd (omega (arith, l))
rest_marked_trees-all ds p n m (suc i) (x ∷ xs) l = ap (λ ts. x before ts) (rest_marked_trees-all ds p n m i xs (omega (arith, l)))
