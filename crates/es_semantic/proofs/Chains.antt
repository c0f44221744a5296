-- The scopes around a place, as a table's parents and as a list.
use Rattle.std.proofs.Common.{◌≡◌, ℕ, suc, ◌+◌, ◌&&◌, ◌||◌, Bool, true, false, if◌then◌else◌, Option, Some, None, is_some, option_map, option_and_then, List, [], ◌∷◌, ◌++◌, length, slice_get, refl, sym, ap, subst, ◌∙◌, arith}
use Rattle.std.proofs.lemmas.Option.{slice_get_within}
use Rattle.es_tree.specs.Tree.{Label, Fields}
use Rattle.es_tree.specs.Words.{Text}
use Rattle.es_tree.specs.declared.ast_type.AstType.{AstType}
use Rattle.es_scope.specs.Tables.{Finds, found_here, found_outside, found_nowhere}
use Rattle.es_scope.specs.declared.scoping.Scoping.{Scoping}
use Rattle.es_semantic.specs.Places.{Place, around_in, has_name_scope, is_inside, makes_scope, visit}
use Rattle.es_semantic.specs.Referring.{HasNames, IsChain, inside, StandFrom}
use Rattle.es_semantic.specs.ScopesOf.{ScopeRow, scopes_made}
use Rattle.es_semantic.specs.SymbolsOf.{Declared, find, is_bound, is_symbol, symbol_in}
use Rattle.es_semantic.specs.TableOf.{parent}
use Rattle.es_semantic.proofs.MoreReferences.{get_first, get_later}
use Rattle.es_semantic.proofs.VisitCounts.{named_makes}

-- WHAT IS BOUND

some_suc : (o : Option ℕ) → is_some (option_map suc o) ≡ is_some o
some_suc None = refl
some_suc (Some n) = refl

one_more : (b c : Bool) (o : Option ℕ) → c ≡ is_some o → (b || c) ≡ is_some (if b then Some 0 else option_map suc o)
one_more true c o e = refl
one_more false c o e = e ∙ sym (some_suc o)

pub bound_some : (ds : List Declared) (s : ℕ) (x : Text) → is_bound ds s x ≡ is_some (symbol_in ds s x)
bound_some [] s x = refl
bound_some (d ∷ ds) s x = one_more (is_symbol s x d) (is_bound ds s x) (symbol_in ds s x) (bound_some ds s x)

-- LOOK-UP

find_here : (ds : List Declared) (n m : ℕ) (up : List ℕ) (x : Text) → symbol_in ds n x ≡ Some m → find ds (n ∷ up) x ≡ Some m
find_here ds n m up x e = rw (bound_some ds n x, e) refl

find_outside : (ds : List Declared) (n : ℕ) (up : List ℕ) (x : Text) → symbol_in ds n x ≡ None → find ds (n ∷ up) x ≡ find ds up x
find_outside ds n up x e = rw (bound_some ds n x, e) refl

-- what is around a scope of a chain
around_is : (rows : List ScopeRow) (n : ℕ) (up : List ℕ) → option_map (λ r. r.around) (slice_get rows n) ≡ Some up → option_and_then (λ r. parent r.around) (slice_get rows n) ≡ parent up
around_is rows n up e = at (slice_get rows n) e where
  at : (o : Option ScopeRow) → option_map (λ r. r.around) o ≡ Some up → option_and_then (λ r. parent r.around) o ≡ parent up
  at None f = absurd (cc)
  at (Some r) f = let same : r.around ≡ up = cc in ap parent same

pub finds_found : (rows : List ScopeRow) (ds : List Declared) (s : Scoping) (x : Text) (n : ℕ) (r : Option ℕ) (up : List ℕ) → HasNames rows ds s → IsChain rows (n ∷ up) → Finds s x n r → r ≡ find ds (n ∷ up) x
finds_found rows ds s x n r up names (inside e chain) (found_here {m = m} b) = sym (find_here ds n m up x (sym (names.bindings n x) ∙ b))
finds_found rows ds s x n r [] names (inside e chain) (found_outside {up = q} b p f) = absurd (let no : None ≡ Some q = sym (names.parents n ∙ around_is rows n [] e) ∙ p in cc)
finds_found rows ds s x n r (m ∷ ms) names (inside e chain) (found_outside {up = q} b p f) =
    let same : Some m ≡ Some q = sym (names.parents n ∙ around_is rows n (m ∷ ms) e) ∙ p in
    let number : q ≡ m = cc in
    finds_found rows ds s x m r ms names chain (subst (λ k. Finds s x k r) number f) ∙ sym (find_outside ds n (m ∷ ms) x (sym (names.bindings n x) ∙ b))
finds_found rows ds s x n r [] names (inside e chain) (found_nowhere b p) = sym (find_outside ds n [] x (sym (names.bindings n x) ∙ b))
finds_found rows ds s x n r (m ∷ ms) names (inside e chain) (found_nowhere b p) = absurd (let no : Some m ≡ None = sym (names.parents n ∙ around_is rows n (m ∷ ms) e) ∙ p in cc)

-- SCOPES OF A NODE

-- the scopes around what stands in a field are a chain
chain_from : (rows : List ScopeRow) (up : List ℕ) (n : ℕ) (named makes within : Bool) (r q : ScopeRow) → (named ≡ true → makes ≡ true) → r.around ≡ up → q.around ≡ (if named then n ∷ up else up) → IsChain rows up → StandFrom rows n ((if named then r ∷ [] else []) ++ (if makes then q ∷ [] else [])) →
    IsChain rows (if makes && within then (if named then suc n else n) ∷ (if named then n ∷ up else up) else (if named then n ∷ up else up))
chain_from rows up n true false within r q h e f chain stand = absurd (let no : false ≡ true = h refl in cc)
chain_from rows up n true true within r q h e f chain stand =
    let first : slice_get rows n ≡ Some r = subst (λ m. slice_get rows m ≡ Some r) (omega arith) (stand 0 r refl) in
    let second : slice_get rows (suc n) ≡ Some q = subst (λ m. slice_get rows m ≡ Some q) (omega arith) (stand 1 q refl) in
    let outer : IsChain rows (n ∷ up) = inside (ap (option_map (λ r. r.around)) first ∙ ap Some e) chain in
    at within outer (inside (ap (option_map (λ r. r.around)) second ∙ ap Some f) outer)
  where
    at : (b : Bool) → IsChain rows (n ∷ up) → IsChain rows (suc n ∷ n ∷ up) → IsChain rows (if b then suc n ∷ n ∷ up else n ∷ up)
    at true outer inner = inner
    at false outer inner = outer
chain_from rows up n false true within r q h e f chain stand =
    let first : slice_get rows n ≡ Some q = subst (λ m. slice_get rows m ≡ Some q) (omega arith) (stand 0 q refl) in
    at within (inside (ap (option_map (λ r. r.around)) first ∙ ap Some f) chain)
  where
    at : (b : Bool) → IsChain rows (n ∷ up) → IsChain rows (if b then n ∷ up else up)
    at true inner = inner
    at false inner = chain
chain_from rows up n false false within r q h e f chain stand = chain

pub chain_in : (rows : List ScopeRow) (p : Place) (n : ℕ) (k : AstType) (l : Label) (fs : Fields) (i : ℕ) → IsChain rows p.around → StandFrom rows n (scopes_made (visit p n k l fs)) → IsChain rows (around_in p.around n k fs i)
chain_in rows p n k l fs i chain stand = chain_from rows p.around n (has_name_scope k fs) (makes_scope k) (is_inside k i) _ _ (named_makes k fs) refl refl chain stand

-- PARTS OF WHAT STANDS

pub stand_first : (rows : List ScopeRow) (n : ℕ) (xs ys : List ScopeRow) → StandFrom rows n (xs ++ ys) → StandFrom rows n xs
stand_first rows n xs ys stand = λ i r e. stand i r (get_first xs ys i (slice_get_within xs i r e) ∙ e)

pub stand_later : (rows : List ScopeRow) (n m : ℕ) (xs ys : List ScopeRow) → m ≡ n + length xs → StandFrom rows n (xs ++ ys) → StandFrom rows m ys
stand_later rows n m xs ys h stand = λ i r e. subst (λ k. slice_get rows k ≡ Some r) (omega (arith, h)) (stand (length xs + i) r (get_later xs ys (length xs + i) i refl ∙ e))

-- what stands in the midst of the rows
pub stand_between : (rows before made after : List ScopeRow) (n : ℕ) → rows ≡ before ++ (made ++ after) → length before ≡ n → StandFrom rows n made
stand_between rows before made after n e h = λ i r f.
    let here = slice_get_within made i r f in
    ap (λ xs. slice_get xs (n + i)) e ∙ (get_later before (made ++ after) (n + i) i (omega (arith, h)) ∙ (get_first made after i here ∙ f))
