-- The marks of the table of a program change nothing of its tree but marks, and leave the first node that passes a test that
-- looks at no id and no mark.
use Rattle.std.proofs.Common.{◌≡◌, ℕ, zero, suc, ◌+◌, Some, length, refl, sym, ap, ◌∙◌, List}
use Rattle.std.specs.Prelude.{Bool, if◌then◌else◌}
use Rattle.es_tree.specs.Bare.{bare, bare_label, bare_fields, bare_field, bare_trees}
use Rattle.es_tree.specs.Marks.{scope_marks, with_scope}
use Rattle.es_tree.specs.Tree.{Tree, node, Label, Fields, done, ◌then◌, Field, missing, one, many, statements, Trees, empty, ◌before◌}
use Rattle.es_tree.specs.Walks.{first_node, first_in_fields, first_in_field, first_in_trees, or_later}
use Rattle.es_tree.specs.declared.ast_type.AstType.{AstType}
use Rattle.es_semantic.specs.Places.{Place, outermost, own_scope_count, place_in, scope_count_in, scope_count_in_field, visits, visits_in_field}
use Rattle.es_semantic.specs.ReferencesOf.{own_marks_of, own_reference, references_among, marked_tree, marked_in_fields, marked_in_field, marked_in_trees, marked_program}
use Rattle.es_semantic.specs.SymbolsOf.{Declared, symbols_of}

-- THE TREE BUT FOR MARKS

mutual
  bare-tree : (ds : List Declared) (p : Place) (n m : ℕ) (t : Tree) → bare (marked_tree ds p n m t) ≡ bare t
  bare-tree ds p n m (node k l fs) = ap (node k (bare_label l)) (bare-fields ds (place_in p n k l fs) (n + own_scope_count k fs) (m + length (own_reference ds p k l)) fs)

  bare-fields : (ds : List Declared) (ps : ℕ → Place) (n m : ℕ) (fs : Fields) → bare_fields (marked_in_fields ds ps n m fs) ≡ bare_fields fs
  bare-fields ds ps n m done = refl
  bare-fields ds ps n m (f then fs) = λ i. bare-field ds (ps zero) n m f i then bare-fields ds (λ j. ps (suc j)) (n + scope_count_in_field f) (m + length (references_among ds (visits_in_field (ps zero) n f))) fs i

  bare-field : (ds : List Declared) (p : Place) (n m : ℕ) (f : Field) → bare_field (marked_in_field ds p n m f) ≡ bare_field f
  bare-field ds p n m missing = refl
  bare-field ds p n m (one t) = ap one (bare-tree ds p n m t)
  bare-field ds p n m (many ts) = ap many (bare-trees ds p n m ts)
  bare-field ds p n m (statements ts) = ap statements (bare-trees ds p n m ts)

  bare-trees : (ds : List Declared) (p : Place) (n m : ℕ) (ts : Trees) → bare_trees (marked_in_trees ds p n m ts) ≡ bare_trees ts
  bare-trees ds p n m empty = refl
  bare-trees ds p n m (t before ts) = λ i. bare-tree ds p n m t i before bare-trees ds p (n + scope_count_in t) (m + length (references_among ds (visits p n t))) ts i

bare-scope : (t : Tree) → bare (with_scope t) ≡ bare t
bare-scope (node k l fs) = refl

-- a program with its marks is the program, but for the marks
pub bare-marked-program : (p : Tree) → bare (marked_program p) ≡ bare p
bare-marked-program p = bare-scope (marked_tree (symbols_of p) (outermost p) 1 0 p) ∙ bare-tree (symbols_of p) (outermost p) 1 0 p

-- THE FIRST NODE THAT PASSES A TEST

module _ (test : AstType → Label → Fields → Bool) (same : (k : AstType) (l : Label) (fs : Fields) → test k (bare_label l) (bare_fields fs) ≡ test k l fs) where
  mutual
    first-tree : (ds : List Declared) (p : Place) (n m : ℕ) (t : Tree) → first_node test (marked_tree ds p n m t) ≡ first_node test t
    first-tree ds p n m (node k l fs) =
        let q = place_in p n k l fs in
        let s = n + own_scope_count k fs in
        let r = m + length (own_reference ds p k l) in
        let marks : Label = record l { marks = own_marks_of ds p n m k l fs } in
        let gs = marked_in_fields ds q s r fs in
        let own : test k marks gs ≡ test k l fs = sym (same k marks gs) ∙ ap (test k (bare_label l)) (bare-fields ds q s r fs) ∙ same k l fs in
        λ i. if own i then Some l.id else first-fields ds q s r fs i

    first-fields : (ds : List Declared) (ps : ℕ → Place) (n m : ℕ) (fs : Fields) → first_in_fields test (marked_in_fields ds ps n m fs) ≡ first_in_fields test fs
    first-fields ds ps n m done = refl
    first-fields ds ps n m (f then fs) =
        λ i. or_later (first-field ds (ps zero) n m f i) (first-fields ds (λ j. ps (suc j)) (n + scope_count_in_field f) (m + length (references_among ds (visits_in_field (ps zero) n f))) fs i)

    first-field : (ds : List Declared) (p : Place) (n m : ℕ) (f : Field) → first_in_field test (marked_in_field ds p n m f) ≡ first_in_field test f
    first-field ds p n m missing = refl
    first-field ds p n m (one t) = first-tree ds p n m t
    first-field ds p n m (many ts) = first-trees ds p n m ts
    first-field ds p n m (statements ts) = first-trees ds p n m ts

    first-trees : (ds : List Declared) (p : Place) (n m : ℕ) (ts : Trees) → first_in_trees test (marked_in_trees ds p n m ts) ≡ first_in_trees test ts
    first-trees ds p n m empty = refl
    first-trees ds p n m (t before ts) = λ i. or_later (first-tree ds p n m t i) (first-trees ds p (n + scope_count_in t) (m + length (references_among ds (visits p n t))) ts i)

  first-scope : (t : Tree) → first_node test (with_scope t) ≡ first_node test t
  first-scope (node k l fs) = λ i. if (sym (same k (record l { marks = scope_marks k l }) fs) ∙ same k l fs) i then Some l.id else first_in_fields test fs

  pub marked-program-first : (p : Tree) → first_node test (marked_program p) ≡ first_node test p
  marked-program-first p = first-scope (marked_tree (symbols_of p) (outermost p) 1 0 p) ∙ first-tree (symbols_of p) (outermost p) 1 0 p
