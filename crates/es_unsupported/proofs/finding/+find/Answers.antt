use Rattle.std.proofs.Common.{arith, ◌≡◌, ℕ, suc, ◌+◌, ◌<◌, ◌≤◌, Bool, true, List, Some, None, inl, inr, get_or, length, map, take, refl, sym, ap, subst, ◌∙◌}
use Rattle.std.proofs.lemmas.List.{take_all}
use Rattle.es_tree.specs.Tree.{Field, field_size, fields, fields_of, fields_size, kind_of, label_of, tree_size, trees, trees_size}
use Rattle.es_tree.specs.Views.{plain_field, plain_fields}
use Rattle.es_tree.specs.Walks.{all_in_field, all_in_fields, all_in_trees}
use Rattle.es_tree.specs.declared.error.UnsupportedKind.{UnsupportedKind}
use Rattle.es_tree.specs.declared.node.Field.{Field as NodeField}
use Rattle.es_tree.specs.declared.options.EnvOptions.{EnvOptions}
use Rattle.es_scope.specs.Tables.{scope_count}
use Rattle.es_semantic.specs.Places.{first}
use Rattle.es_semantic.specs.SymbolsOf.{Declared}
use Rattle.es_semantic.proofs.Remaining.{field_within, tree_within}
use Rattle.es_unsupported.specs.ArrowShapes.{binds_arguments}
use Rattle.es_unsupported.specs.MarkedWalk.{LooksUpInField, LooksUpInFields, LooksUpInTrees, around_marked, first_at, first_in_field, first_in_fields, first_in_trees, has_known_scope, scope_at, scope_mark}
use Rattle.es_unsupported.specs.NodePlaces.{node_place_in}
use Rattle.es_unsupported.specs.Shapes.{plain_found}
use Rattle.es_unsupported.specs.declared.node_places.NodePlace.{NodePlace}
use Rattle.es_unsupported.proofs.Firsts.{first_found, none_further}
use Rattle.es_unsupported.proofs.Parts.{asked_place, below_look_up, below_pass, field_looks_up, field_passes, found_below, found_here, own_looks_up, own_passes, own_places, tree_looks_up, tree_passes}
use Rattle.es_unsupported.proofs.finding.+find.Goals as goal

-- WHAT IS FOUND IN FIELDS, where for each it is known which scopes are around, and what of arrows

module _ (o : EnvOptions) (ds : List Declared) (ups : ℕ → List ℕ) (qs : ℕ → Field → NodePlace) (xs : List NodeField) (i : ℕ) (x : NodeField) where
  field_found : (r : UnsupportedKind × ℕ) → i < length xs → x ≡ get_or xs i x → first_in_fields o ds ups qs (fields (map plain_field (take i xs))) ≡ None → first_in_field o ds (ups i) (qs i (plain_field x)) (plain_field x) ≡ Some r → first_in_fields o ds ups qs (fields (map plain_field xs)) ≡ Some r
  field_found r l e none here =
      first_found {P = List ℕ × (Field → NodePlace)} (λ ps ys. first_in_fields o ds (λ j. (ps j).0) (λ j. (ps j).1) (fields (map plain_field ys))) (λ p y. first_in_field o ds p.0 (p.1 (plain_field y)) (plain_field y)) (λ ps. refl) (λ ps y ys. refl) (λ j. (ups j, qs j)) xs i x r l e none here

  no_field_further : i < length xs → x ≡ get_or xs i x → first_in_fields o ds ups qs (fields (map plain_field (take i xs))) ≡ None → first_in_field o ds (ups i) (qs i (plain_field x)) (plain_field x) ≡ None → first_in_fields o ds ups qs (fields (map plain_field (take (i + 1) xs))) ≡ None
  no_field_further l e none here =
      none_further {P = List ℕ × (Field → NodePlace)} (λ ps ys. first_in_fields o ds (λ j. (ps j).0) (λ j. (ps j).1) (fields (map plain_field ys))) (λ p y. first_in_field o ds p.0 (p.1 (plain_field y)) (plain_field y)) (λ ps. refl) (λ ps y ys. refl) (λ j. (ups j, qs j)) xs i x l e none here

-- a node

pub find_in-returns-in-Some : goal.find_in-returns-in-Some
find_in-returns-in-Some t c = λ ds up wanted binds at seen.
    let o = c.args.options.now in
    found_here o ds up c.args.place c.args.node.now c.in-Some.shape c.node.inside.id.0 (ap (λ u. (label_of u).id) c.node.view_is) (c.in-Some.ensures o ds up wanted at (own_looks_up c.args.scoping.now ds up c.args.node.now seen))

pub find_in-find_in_field-requires : goal.find_in-find_in_field-requires
find_in-find_in_field-requires t c =
    let xs = c.deref-field-items.result.now in let count = scope_count c.args.scoping.now in let test = has_known_scope count in let u = c.args.node.now in
    let same : fields_of u ≡ fields (map plain_field xs) = ap fields_of (sym c.node.view_is) ∙ ap plain_fields (sym c.deref-field-items.ensures.value) in
    let known : scope_at c.field_scopes-scopes.result c.loop-index.index < count = c.field_scopes-scopes.ensures.known count c.requires.scope (own_passes test u c.requires.marks) c.loop-index.index in
    let passes : all_in_fields test (fields (map plain_field xs)) ≡ true = subst (λ fs. all_in_fields test fs ≡ true) same (below_pass test u c.requires.marks) in
    let size : tree_size u ≡ suc (fields_size (plain_fields xs)) = ap tree_size (sym c.node.view_is) ∙ ap (λ ys. suc (fields_size (plain_fields ys))) (sym c.deref-field-items.ensures.value) in
    let within : field_size (plain_field c.field-item.result) ≤ fields_size (plain_fields xs) = subst (λ f. field_size (plain_field f) ≤ fields_size (plain_fields xs)) (sym c.field-item.is) (field_within xs xs c.loop-index.index c.field-item.result c.loop-index-test.true refl) in
    (omega (arith, size, within), (subst (λ n. n < count) (sym c.at.ensures) known, field_passes test xs c.loop-index.index c.field-item.result c.loop-index-test.true c.field-item.is passes))

pub find_in-returns-in-Some-find_in_field : goal.find_in-returns-in-Some-find_in_field
find_in-returns-in-Some-find_in_field t c = λ ds up wanted binds at seen.
    let o = c.args.options.now in let xs = c.deref-field-items.result.now in let s = c.args.scoping.now in let u = c.args.node.now in let i = c.loop-index.index in
    let same : fields_of u ≡ fields (map plain_field xs) = ap fields_of (sym c.node.view_is) ∙ ap plain_fields (sym c.deref-field-items.ensures.value) in
    let ups = around_marked up (kind_of u) (label_of u) (fields_of u) in
    let here : c.at.result.0 ≡ first (ups i) = c.at.ensures ∙ c.field_scopes-scopes.ensures.around up at i in
    let below : LooksUpInFields s ds ups (fields (map plain_field xs)) = subst (LooksUpInFields s ds ups) same (below_look_up s ds up u seen) in
    let sees : LooksUpInField s ds (ups i) (plain_field c.field-item.result) = field_looks_up s ds ups xs i c.field-item.result c.loop-index-test.true c.field-item.is below in
    let qs = own_places o ds up c.args.place u in
    let inside : c.inside-inside.result ≡ qs i (plain_field c.field-item.result) = c.inside-inside.ensures ∙ (ap (λ (b : Bool). node_place_in o b c.args.place (kind_of u) (label_of u) (fields_of u) i (plain_field c.field-item.result)) (c.asked_arguments-binds.ensures ds binds) ∙ asked_place o c.args.wanted.arrows (binds_arguments ds (scope_mark (label_of u).marks) (kind_of u)) c.args.place (kind_of u) (label_of u) (fields_of u) i (plain_field c.field-item.result) wanted.arrows) in
    let item = c.in-Some-find_in_field.ensures ds (ups i) wanted binds here sees in
    let there : first_in_field o ds (ups i) (qs i (plain_field c.field-item.result)) (plain_field c.field-item.result) ≡ Some (plain_found c.in-Some-find_in_field.found) = subst (λ (q : NodePlace). first_in_field o ds (ups i) q (plain_field c.field-item.result) ≡ Some (plain_found c.in-Some-find_in_field.found)) inside (sym item) in
    let found : first_in_fields o ds ups qs (fields (map plain_field xs)) ≡ Some (plain_found c.in-Some-find_in_field.found) =
    field_found o ds ups qs xs i c.field-item.result (plain_found c.in-Some-find_in_field.found) c.loop-index-test.true c.field-item.is (c.loop-index.invariant ds up wanted binds at seen) there in
    found_below o ds up c.args.place u (Some (plain_found c.in-Some-find_in_field.found)) (c.in_default.ensures o ds up wanted at (own_looks_up s ds up u seen)) (ap (first_in_fields o ds ups qs) same ∙ found)

pub find_in-loop-index-preserved : goal.find_in-loop-index-preserved
find_in-loop-index-preserved t c = λ ds up wanted binds at seen.
    let o = c.args.options.now in let xs = c.deref-field-items.result.now in let s = c.args.scoping.now in let u = c.args.node.now in let i = c.loop-index.index in
    let same : fields_of u ≡ fields (map plain_field xs) = ap fields_of (sym c.node.view_is) ∙ ap plain_fields (sym c.deref-field-items.ensures.value) in
    let ups = around_marked up (kind_of u) (label_of u) (fields_of u) in
    let here : c.at.result.0 ≡ first (ups i) = c.at.ensures ∙ c.field_scopes-scopes.ensures.around up at i in
    let below : LooksUpInFields s ds ups (fields (map plain_field xs)) = subst (LooksUpInFields s ds ups) same (below_look_up s ds up u seen) in
    let sees : LooksUpInField s ds (ups i) (plain_field c.field-item.result) = field_looks_up s ds ups xs i c.field-item.result c.loop-index-test.true c.field-item.is below in
    let qs = own_places o ds up c.args.place u in
    let inside : c.inside-inside.result ≡ qs i (plain_field c.field-item.result) = c.inside-inside.ensures ∙ (ap (λ (b : Bool). node_place_in o b c.args.place (kind_of u) (label_of u) (fields_of u) i (plain_field c.field-item.result)) (c.asked_arguments-binds.ensures ds binds) ∙ asked_place o c.args.wanted.arrows (binds_arguments ds (scope_mark (label_of u).marks) (kind_of u)) c.args.place (kind_of u) (label_of u) (fields_of u) i (plain_field c.field-item.result) wanted.arrows) in
    let item = c.in_default-find_in_field.ensures ds (ups i) wanted binds here sees in
    let there : first_in_field o ds (ups i) (qs i (plain_field c.field-item.result)) (plain_field c.field-item.result) ≡ None = subst (λ (q : NodePlace). first_in_field o ds (ups i) q (plain_field c.field-item.result) ≡ None) inside (sym item) in
    no_field_further o ds ups qs xs i c.field-item.result c.loop-index-test.true c.field-item.is (c.loop-index.invariant ds up wanted binds at seen) there

pub find_in-returns : goal.find_in-returns
find_in-returns t c = λ ds up wanted binds at seen.
    let o = c.args.options.now in let xs = c.deref-field-items.result.now in let s = c.args.scoping.now in let u = c.args.node.now in
    let same : fields_of u ≡ fields (map plain_field xs) = ap fields_of (sym c.node.view_is) ∙ ap plain_fields (sym c.deref-field-items.ensures.value) in
    let ups = around_marked up (kind_of u) (label_of u) (fields_of u) in
    let all : take c.loop-index.index xs ≡ xs = take_all c.loop-index.index xs (c.loop-index-test.false) in
    let qs = own_places o ds up c.args.place u in
    let none : first_in_fields o ds ups qs (fields (map plain_field xs)) ≡ None = subst (λ ys. first_in_fields o ds ups qs (fields (map plain_field ys)) ≡ None) all (c.loop-index.invariant ds up wanted binds at seen) in
    found_below o ds up c.args.place u None (c.in_default.ensures o ds up wanted at (own_looks_up s ds up u seen)) (ap (first_in_fields o ds ups qs) same ∙ none)

-- the nodes of a list

pub find_in_field-find_in-requires-in-loop-node : goal.find_in_field-find_in-requires-in-loop-node
find_in_field-find_in-requires-in-loop-node t c =
    let xs = c.deref-node-items.result.now in let test = has_known_scope (scope_count c.args.scoping.now) in
    let of_list : all_in_trees test (trees c.in-Many.nodes.items) ≡ true =
    elim c.in-Many.is [
      | inl e ↦ subst (λ f. all_in_field test (plain_field f) ≡ true) e c.requires.marks
      | inr e ↦ subst (λ f. all_in_field test (plain_field f) ≡ true) e c.requires.marks
    ] in
    let passes : all_in_trees test (trees xs) ≡ true = subst (λ ys. all_in_trees test (trees ys) ≡ true) (sym c.deref-node-items.ensures.value) of_list in
    let size : field_size (plain_field c.args.field.now) ≡ trees_size (trees c.in-Many.nodes.items) =
    elim c.in-Many.is [
      | inl e ↦ ap (λ f. field_size (plain_field f)) e
      | inr e ↦ ap (λ f. field_size (plain_field f)) e
    ] in
    let same : trees_size (trees xs) ≡ trees_size (trees c.in-Many.nodes.items) = ap (λ ys. trees_size (trees ys)) c.deref-node-items.ensures.value in
    let within : tree_size c.node-item.result ≤ trees_size (trees xs) = subst (λ y. tree_size y ≤ trees_size (trees xs)) (sym c.node-item.is) (tree_within xs xs c.loop-node.node-index c.node-item.result c.loop-node-test.true refl) in
    (omega (arith, size, same, within), (c.requires.scope, tree_passes test xs c.loop-node.node-index c.node-item.result c.loop-node-test.true c.node-item.is passes))

pub find_in_field-returns-in-Some : goal.find_in_field-returns-in-Some
find_in_field-returns-in-Some t c = λ ds up wanted binds at seen.
    let o = c.args.options.now in let a = c.args.place in let xs = c.deref-node-items.result.now in let s = c.args.scoping.now in
    let of_list : LooksUpInTrees s ds up (trees c.in-Many.nodes.items) =
    elim c.in-Many.is [
      | inl e ↦ subst (λ f. LooksUpInField s ds up (plain_field f)) e seen
      | inr e ↦ subst (λ f. LooksUpInField s ds up (plain_field f)) e seen
    ] in
    let all : LooksUpInTrees s ds up (trees xs) = subst (λ ys. LooksUpInTrees s ds up (trees ys)) (sym c.deref-node-items.ensures.value) of_list in
    let item = c.in-Some.ensures ds up wanted binds at (tree_looks_up s ds up xs c.loop-node.node-index c.node-item.result c.loop-node-test.true c.node-item.is all) in
    let found : first_in_trees o ds up a (trees xs) ≡ Some (plain_found c.in-Some.found) =
    first_found {P = Unit {0}} (λ us ys. first_in_trees o ds up a (trees ys)) (λ v y. first_at o ds up a y) (λ us. refl) (λ us y ys. refl) (λ j. tt) xs c.loop-node.node-index c.node-item.result (plain_found c.in-Some.found) c.loop-node-test.true c.node-item.is (c.loop-node.invariant ds up wanted binds at seen) (sym item) in
    let found_in_list : Some (plain_found c.in-Some.found) ≡ first_in_trees o ds up a (trees c.in-Many.nodes.items) = sym found ∙ ap (λ ys. first_in_trees o ds up a (trees ys)) c.deref-node-items.ensures.value in
    elim c.in-Many.is [
      | inl e ↦ found_in_list ∙ ap (λ f. first_in_field o ds up a (plain_field f)) (sym e)
      | inr e ↦ found_in_list ∙ ap (λ f. first_in_field o ds up a (plain_field f)) (sym e)
    ]

pub find_in_field-loop-node-preserved : goal.find_in_field-loop-node-preserved
find_in_field-loop-node-preserved t c = λ ds up wanted binds at seen.
    let o = c.args.options.now in let a = c.args.place in let xs = c.deref-node-items.result.now in let s = c.args.scoping.now in
    let of_list : LooksUpInTrees s ds up (trees c.in-Many.nodes.items) =
    elim c.in-Many.is [
      | inl e ↦ subst (λ f. LooksUpInField s ds up (plain_field f)) e seen
      | inr e ↦ subst (λ f. LooksUpInField s ds up (plain_field f)) e seen
    ] in
    let all : LooksUpInTrees s ds up (trees xs) = subst (λ ys. LooksUpInTrees s ds up (trees ys)) (sym c.deref-node-items.ensures.value) of_list in
    let item = c.in_default.ensures ds up wanted binds at (tree_looks_up s ds up xs c.loop-node.node-index c.node-item.result c.loop-node-test.true c.node-item.is all) in
    none_further {P = Unit {0}} (λ us ys. first_in_trees o ds up a (trees ys)) (λ v y. first_at o ds up a y) (λ us. refl) (λ us y ys. refl) (λ j. tt) xs c.loop-node.node-index c.node-item.result c.loop-node-test.true c.node-item.is (c.loop-node.invariant ds up wanted binds at seen) (sym item)
