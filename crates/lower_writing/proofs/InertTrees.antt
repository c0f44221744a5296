-- What is pending and written is none that a test finds which is false of what may be written; and what it weighs.
use Rattle.std.proofs.Common.{◌≡◌, ◌+◌, ◌≤◌, refl, sym, List, [], ◌∷◌, arith, Some}
use Rattle.std.specs.Prelude.{Bool, true, false, not, ◌||◌, bytes_eq, codes}
use Rattle.std.proofs.lemmas.Bool.{and_parts, or_parts}
use Rattle.std.specs.List.{list_all}
use Rattle.es_tree.specs.Tree.{Tree, node, Label, Fields, done, ◌then◌, Field, missing, one, many, statements, Trees, empty, ◌before◌, trees, trees_size}
use Rattle.es_tree.specs.Walks.{any_node, any_in_fields, any_in_field, any_in_trees}
use Rattle.es_tree.specs.Words.{Text}
use Rattle.es_tree.specs.declared.ast_type.AstType.{AstType}
use Rattle.es_tree.specs.declared.ast_type.AstType.TheVariants.{FunctionBody, ReturnStatement, VariableDeclaration}
use Rattle.es_runs.specs.Weights.{declarators_size, declarators_weight, trees_weight}
use Rattle.es_steps.specs.Nodes.{made}
use Rattle.es_steps.specs.Open.{Pending, declaration, written}
use Rattle.es_changes.specs.Changes.{pending_size, pending_weight}
use Rattle.es_traverse.specs.Laws.{is_construct}
use Rattle.lower_temporaries.specs.Declarators.{declarations_for, declarations_written}
use Rattle.lower_temporaries.specs.SeenTrees.{is_active_node, is_inert, is_inert_node}
use Rattle.lower_temporaries.specs.Store.{is_inert_pending}
use Rattle.lower_writing.specs.Writing.{MayBeWritten, is_written_node}

or-false : (a b : Bool) → a ≡ false → b ≡ false → (a || b) ≡ false
or-false a b e d = rw (e, d) refl

not-false : (b : Bool) → not b ≡ false → b ≡ true
not-false true h = refl
not-false false h = sym h

not-true : (b : Bool) → not b ≡ true → b ≡ false
not-true true h = sym h
not-true false h = refl

inert-written : (k : AstType) (l : Label) (fs : Fields) → is_active_node k l fs ≡ false → is_written_node k l fs ≡ true
inert-written FunctionBody l fs h = refl
inert-written ReturnStatement l fs h = refl
inert-written k l fs h = not-false (is_inert_node k l fs) h

-- TESTS that are false of each node that may be written

module _ (test : AstType → Label → Fields → Bool) (f : (v : Tree) → MayBeWritten v → is_construct test v ≡ false) where
  mutual
    none-in-node : (t : Tree) → any_node is_active_node t ≡ false → any_node test t ≡ false
    none-in-node (node k l fs) e =
        let p = or_parts (is_active_node k l fs) (any_in_fields is_active_node fs) e in
        or-false (test k l fs) (any_in_fields test fs) (f (node k l fs) (inert-written k l fs p.0)) (none-in-fields fs p.1)

    none-in-fields : (fs : Fields) → any_in_fields is_active_node fs ≡ false → any_in_fields test fs ≡ false
    none-in-fields done e = refl
    none-in-fields (x then xs) e = let p = or_parts (any_in_field is_active_node x) (any_in_fields is_active_node xs) e in or-false (any_in_field test x) (any_in_fields test xs) (none-in-field x p.0) (none-in-fields xs p.1)

    none-in-field : (x : Field) → any_in_field is_active_node x ≡ false → any_in_field test x ≡ false
    none-in-field missing e = refl
    none-in-field (one t) e = none-in-node t e
    none-in-field (many ts) e = none-in-trees ts e
    none-in-field (statements ts) e = none-in-trees ts e

    none-in-trees : (ts : Trees) → any_in_trees is_active_node ts ≡ false → any_in_trees test ts ≡ false
    none-in-trees empty e = refl
    none-in-trees (t before ts) e = let p = or_parts (any_node is_active_node t) (any_in_trees is_active_node ts) e in or-false (any_node test t) (any_in_trees test ts) (none-in-node t p.0) (none-in-trees ts p.1)

  none-in-list : (ds : List Tree) → list_all is_inert ds ≡ true → any_in_trees test (trees ds) ≡ false
  none-in-list [] e = refl
  none-in-list (d ∷ ds) e = let p = and_parts (is_inert d) (list_all is_inert ds) e in or-false (any_node test d) (any_in_trees test (trees ds)) (none-in-node d (not-true (any_node is_active_node d) p.0)) (none-in-list ds p.1)

  none-declared : (kind : Text) (ds : List Tree) (ts : Trees) → not (bytes_eq kind (codes "using")) ≡ true → list_all is_inert ds ≡ true → any_in_trees test ts ≡ false → any_in_trees test (declaration kind ds ts) ≡ false
  none-declared kind [] ts k e h = h
  none-declared kind (d ∷ ds) ts k e h =
      or-false _ _
      (or-false _ _ (f (node VariableDeclaration (made (Some kind ∷ []) []) (many (trees (d ∷ ds)) then done)) k) (or-false _ _ (none-in-list (d ∷ ds) e) refl)) h

  pub none-written : (p : Pending) (ts : Trees) → is_inert_pending p ≡ true → any_in_trees test ts ≡ false → any_in_trees test (written p ts) ≡ false
  none-written p ts e h =
      let q = and_parts (list_all is_inert p.vars) (list_all is_inert p.lets) e in
      none-declared (codes "var") p.vars (declaration (codes "let") p.lets ts) refl q.0 (none-declared (codes "let") p.lets ts refl q.1 h)

-- WEIGHTS: each declaration takes an id

declared-weight : (kind : Text) (ds : List Tree) (ts : Trees) → trees_weight (declaration kind ds ts) + declarations_for ds ≤ declarators_weight ds + trees_weight ts
declared-weight kind [] ts = omega arith
declared-weight kind (d ∷ ds) ts = omega (arith, list-weight ds)
  where
    list-weight : (ds : List Tree) → trees_weight (trees ds) ≤ declarators_weight ds
    list-weight [] = omega arith
    list-weight (d ∷ ds) = omega (arith, list-weight ds)

declared-size : (kind : Text) (ds : List Tree) (ts : Trees) → trees_size (declaration kind ds ts) ≤ declarators_size ds + declarations_for ds + trees_size ts
declared-size kind [] ts = omega arith
declared-size kind (d ∷ ds) ts = omega (arith, list-size ds)
  where
    list-size : (ds : List Tree) → trees_size (trees ds) ≤ declarators_size ds
    list-size [] = omega arith
    list-size (d ∷ ds) = omega (arith, list-size ds)

pub written-weight : (p : Pending) (ts : Trees) → trees_weight (written p ts) + declarations_written p ≤ pending_weight p + trees_weight ts
written-weight p ts = omega (arith, declared-weight (codes "let") p.lets ts, declared-weight (codes "var") p.vars (declaration (codes "let") p.lets ts))

pub written-size : (p : Pending) (ts : Trees) → trees_size (written p ts) ≤ pending_size p + declarations_written p + trees_size ts
written-size p ts = omega (arith, declared-size (codes "let") p.lets ts, declared-size (codes "var") p.vars (declaration (codes "let") p.lets ts))
