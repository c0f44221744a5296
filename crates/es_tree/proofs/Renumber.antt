-- Trees with ids counted anew: what stays, and one field or node more.
use Rattle.std.proofs.Common.{ℕ, suc, ◌+◌, ◌<◌, ◌≡◌, List, [], ◌∷◌, ◌++◌, get_or, length, map, take, ap, refl, subst, sym, ◌∙◌, arith}
use Rattle.std.proofs.lemmas.List.{take_more, map-append, map_more}
use Rattle.es_tree.specs.Bare.{bare, bare_label, bare_fields, bare_field, bare_trees}
use Rattle.es_tree.specs.Order.{IsNumbered, AreFieldsNumbered, IsFieldNumbered, AreTreesNumbered, IsUnmarked, AreFieldsUnmarked, IsFieldUnmarked, AreTreesUnmarked, renumber, renumber_fields, renumber_field, renumber_trees}
use Rattle.es_tree.specs.Tree.{Tree, node, Fields, done, ◌then◌, Field, missing, one, many, statements, Trees, empty, ◌before◌, fields, trees, tree_size, field_size, fields_size, trees_size}
use Rattle.es_tree.specs.Views.{plain_field}
use Rattle.es_tree.specs.declared.node.Field.{Field as NodeField}

-- nothing but ids is another
mutual
  pub renumber-bare : (n : ℕ) (t : Tree) → bare (renumber n t) ≡ bare t
  renumber-bare n (node k l fs) = ap (node k (bare_label l)) (renumber_fields-bare (suc n) fs)

  pub renumber_fields-bare : (n : ℕ) (fs : Fields) → bare_fields (renumber_fields n fs) ≡ bare_fields fs
  renumber_fields-bare n done = refl
  renumber_fields-bare n (f then fs) = λ i. renumber_field-bare n f i then renumber_fields-bare (n + field_size f) fs i

  pub renumber_field-bare : (n : ℕ) (f : Field) → bare_field (renumber_field n f) ≡ bare_field f
  renumber_field-bare n missing = refl
  renumber_field-bare n (one t) = ap one (renumber-bare n t)
  renumber_field-bare n (many ts) = ap many (renumber_trees-bare n ts)
  renumber_field-bare n (statements ts) = ap statements (renumber_trees-bare n ts)

  pub renumber_trees-bare : (n : ℕ) (ts : Trees) → bare_trees (renumber_trees n ts) ≡ bare_trees ts
  renumber_trees-bare n empty = refl
  renumber_trees-bare n (t before ts) = λ i. renumber-bare n t i before renumber_trees-bare (n + tree_size t) ts i

-- as many nodes
mutual
  pub renumber-size : (n : ℕ) (t : Tree) → tree_size (renumber n t) ≡ tree_size t
  renumber-size n (node k l fs) = ap suc (renumber_fields-size (suc n) fs)

  pub renumber_fields-size : (n : ℕ) (fs : Fields) → fields_size (renumber_fields n fs) ≡ fields_size fs
  renumber_fields-size n done = refl
  renumber_fields-size n (f then fs) = omega (arith, renumber_field-size n f, renumber_fields-size (n + field_size f) fs)

  pub renumber_field-size : (n : ℕ) (f : Field) → field_size (renumber_field n f) ≡ field_size f
  renumber_field-size n missing = refl
  renumber_field-size n (one t) = renumber-size n t
  renumber_field-size n (many ts) = renumber_trees-size n ts
  renumber_field-size n (statements ts) = renumber_trees-size n ts

  pub renumber_trees-size : (n : ℕ) (ts : Trees) → trees_size (renumber_trees n ts) ≡ trees_size ts
  renumber_trees-size n empty = refl
  renumber_trees-size n (t before ts) = omega (arith, renumber-size n t, renumber_trees-size (n + tree_size t) ts)

-- the ids count from n in node order
mutual
  pub renumber-numbered : (n : ℕ) (t : Tree) → IsNumbered n (renumber n t)
  renumber-numbered n (node k l fs) = (refl, renumber_fields-numbered (suc n) fs)

  pub renumber_fields-numbered : (n : ℕ) (fs : Fields) → AreFieldsNumbered n (renumber_fields n fs)
  renumber_fields-numbered n done = tt
  renumber_fields-numbered n (f then fs) =
      let rest = renumber_fields (n + field_size f) fs in
      let P : ℕ → Type 0 = λ size. AreFieldsNumbered (n + size) rest in
      (renumber_field-numbered n f, subst P (sym (renumber_field-size n f)) (renumber_fields-numbered (n + field_size f) fs))

  pub renumber_field-numbered : (n : ℕ) (f : Field) → IsFieldNumbered n (renumber_field n f)
  renumber_field-numbered n missing = tt
  renumber_field-numbered n (one t) = renumber-numbered n t
  renumber_field-numbered n (many ts) = renumber_trees-numbered n ts
  renumber_field-numbered n (statements ts) = renumber_trees-numbered n ts

  pub renumber_trees-numbered : (n : ℕ) (ts : Trees) → AreTreesNumbered n (renumber_trees n ts)
  renumber_trees-numbered n empty = tt
  renumber_trees-numbered n (t before ts) =
      let rest = renumber_trees (n + tree_size t) ts in
      let P : ℕ → Type 0 = λ size. AreTreesNumbered (n + size) rest in
      (renumber-numbered n t, subst P (sym (renumber-size n t)) (renumber_trees-numbered (n + tree_size t) ts))

-- no mark comes
mutual
  pub renumber-unmarked : (n : ℕ) (t : Tree) → IsUnmarked t → IsUnmarked (renumber n t)
  renumber-unmarked n (node k l fs) h = (h.0, renumber_fields-unmarked (suc n) fs h.1)

  pub renumber_fields-unmarked : (n : ℕ) (fs : Fields) → AreFieldsUnmarked fs → AreFieldsUnmarked (renumber_fields n fs)
  renumber_fields-unmarked n done h = tt
  renumber_fields-unmarked n (f then fs) h = (renumber_field-unmarked n f h.0, renumber_fields-unmarked (n + field_size f) fs h.1)

  pub renumber_field-unmarked : (n : ℕ) (f : Field) → IsFieldUnmarked f → IsFieldUnmarked (renumber_field n f)
  renumber_field-unmarked n missing h = tt
  renumber_field-unmarked n (one t) h = renumber-unmarked n t h
  renumber_field-unmarked n (many ts) h = renumber_trees-unmarked n ts h
  renumber_field-unmarked n (statements ts) h = renumber_trees-unmarked n ts h

  pub renumber_trees-unmarked : (n : ℕ) (ts : Trees) → AreTreesUnmarked ts → AreTreesUnmarked (renumber_trees n ts)
  renumber_trees-unmarked n empty h = tt
  renumber_trees-unmarked n (t before ts) h = (renumber-unmarked n t h.0, renumber_trees-unmarked (n + tree_size t) ts h.1)

-- one more behind others
trees_push : (n m : ℕ) (cs ts : List Tree) (c t : Tree) → trees cs ≡ renumber_trees n (trees ts) → m ≡ n + trees_size (trees ts) → c ≡ renumber m t
    → trees (cs ++ c ∷ []) ≡ renumber_trees n (trees (ts ++ t ∷ []))
trees_push n m [] [] c t e s h = let same : m ≡ n = omega (arith, s) in λ i. (h ∙ ap (λ k. renumber k t) same) i before empty
trees_push n m [] (u ∷ ts) c t e s h = cc
trees_push n m (d ∷ cs) [] c t e s h = cc
trees_push n m (d ∷ cs) (u ∷ ts) c t e s h =
    let rest : trees (cs ++ c ∷ []) ≡ renumber_trees (n + tree_size u) (trees (ts ++ t ∷ [])) = trees_push (n + tree_size u) m cs ts c t (cc) (omega (arith, s)) h in cc

fields_push : (n m : ℕ) (cs fs : List Field) (c f : Field) → fields cs ≡ renumber_fields n (fields fs) → m ≡ n + fields_size (fields fs) → c ≡ renumber_field m f
    → fields (cs ++ c ∷ []) ≡ renumber_fields n (fields (fs ++ f ∷ []))
fields_push n m [] [] c f e s h = let same : m ≡ n = omega (arith, s) in λ i. (h ∙ ap (λ k. renumber_field k f) same) i then done
fields_push n m [] (g ∷ fs) c f e s h = cc
fields_push n m (d ∷ cs) [] c f e s h = cc
fields_push n m (d ∷ cs) (g ∷ fs) c f e s h =
    let rest : fields (cs ++ c ∷ []) ≡ renumber_fields (n + field_size g) (fields (fs ++ f ∷ [])) = fields_push (n + field_size g) m cs fs c f (cc) (omega (arith, s)) h in cc

pub trees_more : (n m : ℕ) (cs ts : List Tree) (i : ℕ) (c t : Tree) → i < length ts → t ≡ get_or ts i t
    → trees cs ≡ renumber_trees n (trees (take i ts)) → m ≡ n + trees_size (trees (take i ts)) → c ≡ renumber m t
    → trees (cs ++ c ∷ []) ≡ renumber_trees n (trees (take (i + 1) ts))
trees_more n m cs ts i c t h is e s new =
    trees_push n m cs (take i ts) c t e s new ∙ ap (λ us. renumber_trees n (trees us)) (sym (take_more ts i t h ∙ ap (λ u. take i ts ++ u ∷ []) (sym is)))

pub fields_more : (n m : ℕ) (cs fs : List NodeField) (i : ℕ) (c f : NodeField) → i < length fs → f ≡ get_or fs i f
    → fields (map plain_field cs) ≡ renumber_fields n (fields (map plain_field (take i fs))) → m ≡ n + fields_size (fields (map plain_field (take i fs)))
    → plain_field c ≡ renumber_field m (plain_field f)
    → fields (map plain_field (cs ++ c ∷ [])) ≡ renumber_fields n (fields (map plain_field (take (i + 1) fs)))
fields_more n m cs fs i c f h is e s new =
    ap fields (map-append plain_field cs (c ∷ [])) ∙ fields_push n m (map plain_field cs) (map plain_field (take i fs)) (plain_field c) (plain_field f) e s new
    ∙ ap (λ gs. renumber_fields n (fields gs)) (sym (map_more plain_field fs i f h ∙ ap (λ g. map plain_field (take i fs) ++ plain_field g ∷ []) (sym is)))
