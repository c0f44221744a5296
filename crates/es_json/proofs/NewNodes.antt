-- One more new node behind others.
use Rattle.std.proofs.Common.{◌≡◌, ℕ, ◌+◌, List, [], ◌∷◌, ◌++◌, subst, sym, arith}
use Rattle.es_tree.specs.Tree.{Tree, Field, fields, trees, tree_size, trees_size, field_size, fields_size}
use Rattle.es_tree.specs.Order.{IsNumbered, IsFieldNumbered, AreFieldsNumbered, AreTreesNumbered, IsUnmarked, IsFieldUnmarked, AreFieldsUnmarked, AreTreesUnmarked}
use Rattle.es_json.specs.New.{IsNewField, AreNewFields, AreNewTrees}

trees_numbered : (n m : ℕ) (ts : List Tree) (t : Tree) → m ≡ n + trees_size (trees ts) → AreTreesNumbered n (trees ts) → IsNumbered m t → AreTreesNumbered n (trees (ts ++ t ∷ []))
trees_numbered n m [] t e h k =
    let P : ℕ → Type 0 = λ x. IsNumbered x t in
    let same : m ≡ n = omega (arith, e) in (subst P same k, tt)
trees_numbered n m (u ∷ ts) t e h k = (h.0, trees_numbered (n + tree_size u) m ts t (omega (arith, e)) h.1 k)

trees_unmarked : (ts : List Tree) (t : Tree) → AreTreesUnmarked (trees ts) → IsUnmarked t → AreTreesUnmarked (trees (ts ++ t ∷ []))
trees_unmarked [] t h k = (k, tt)
trees_unmarked (u ∷ ts) t h k = (h.0, trees_unmarked ts t h.1 k)

trees_size-push : (ts : List Tree) (t : Tree) → trees_size (trees (ts ++ t ∷ [])) ≡ trees_size (trees ts) + tree_size t
trees_size-push [] t = omega arith
trees_size-push (u ∷ ts) t = omega (arith, trees_size-push ts t)

pub one_more_tree : (n m k : ℕ) (ts us : List Tree) (t : Tree) → us ≡ ts ++ t ∷ [] → AreNewTrees n m (trees ts) → IsNumbered m t → IsUnmarked t → k ≡ m + tree_size t → AreNewTrees n k (trees us)
one_more_tree n m k ts us t e h order marks counted =
    let P : List Tree → Type 0 = λ l. AreNewTrees n k (trees l) in
    subst P (sym e) (trees_numbered n m ts t h.2 h.0 order, trees_unmarked ts t h.1 marks, omega (arith, h.2, counted, trees_size-push ts t))

fields_numbered : (n m : ℕ) (fs : List Field) (f : Field) → m ≡ n + fields_size (fields fs) → AreFieldsNumbered n (fields fs) → IsFieldNumbered m f → AreFieldsNumbered n (fields (fs ++ f ∷ []))
fields_numbered n m [] f e h k =
    let P : ℕ → Type 0 = λ x. IsFieldNumbered x f in
    let same : m ≡ n = omega (arith, e) in (subst P same k, tt)
fields_numbered n m (g ∷ fs) f e h k = (h.0, fields_numbered (n + field_size g) m fs f (omega (arith, e)) h.1 k)

fields_unmarked : (fs : List Field) (f : Field) → AreFieldsUnmarked (fields fs) → IsFieldUnmarked f → AreFieldsUnmarked (fields (fs ++ f ∷ []))
fields_unmarked [] f h k = (k, tt)
fields_unmarked (g ∷ fs) f h k = (h.0, fields_unmarked fs f h.1 k)

fields_size-push : (fs : List Field) (f : Field) → fields_size (fields (fs ++ f ∷ [])) ≡ fields_size (fields fs) + field_size f
fields_size-push [] f = omega arith
fields_size-push (g ∷ fs) f = omega (arith, fields_size-push fs f)

pub one_more_field : (n m k : ℕ) (fs gs : List Field) (f : Field) → gs ≡ fs ++ f ∷ [] → AreNewFields n m (fields fs) → IsNewField m k f → AreNewFields n k (fields gs)
one_more_field n m k fs gs f e h new =
    let P : List Field → Type 0 = λ l. AreNewFields n k (fields l) in
    subst P (sym e) (fields_numbered n m fs f h.2 h.0 new.0, fields_unmarked fs f h.1 new.1, omega (arith, h.2, new.2, fields_size-push fs f))

pub no_more_fields : (n m k : ℕ) (fs gs : List Field) → gs ≡ fs → k ≡ m → AreNewFields n m (fields fs) → AreNewFields n k (fields gs)
no_more_fields n m k fs gs e same h =
    let P : List Field → Type 0 = λ l. AreNewFields n m (fields l) in
    let Q : ℕ → Type 0 = λ j. AreNewFields n j (fields gs) in
    subst Q (sym same) (subst P (sym e) h)
