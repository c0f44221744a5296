use Rattle.std.proofs.Common.{◌≡◌, ℕ, suc, ◌+◌, ◌<◌, ◌≤◌, List, length, sym, ap, subst, ◌∙◌, add-one, arith}
use Rattle.es_tree.specs.Heads.{head_of, label}
use Rattle.es_tree.specs.Tree.{Field, node, fields_of, fields_size, kind_of, label_of, many, statements, trees, tree_size}
use Rattle.es_tree.specs.Views.{plain_field, plain_fields}
use Rattle.es_scope.specs.Tables.{reference_count, scope_count}
use Rattle.es_scope.specs.declared.scoping.Scoping.{Scoping}
use Rattle.es_scope.proofs.ChangedItems.{written_back}
use Rattle.es_semantic.specs.FieldPlaces.{held_at}
use Rattle.es_semantic.specs.Places.{Place, own_scope_count, place_in, scope_count_in, scope_count_in_field, scope_count_in_fields, visits, visits_in_field, visits_in_fields}
use Rattle.es_semantic.specs.Referring.{AreAt, HasReferencesMore, IsAt}
use Rattle.es_semantic.specs.ReferencesOf.{marked_in_field, marked_in_fields, marked_tree, own_reference, references_among}
use Rattle.es_semantic.specs.ScopesOf.{ScopeRow}
use Rattle.es_semantic.specs.SymbolsOf.{Declared}
use Rattle.es_semantic.specs.Walks.{AreOwn, IsKnown, StandsAs}
use Rattle.es_semantic.specs.declared.place.Place.{Place as WalkPlace}
use Rattle.es_semantic.proofs.Remaining.{field_within, later_more, tree_within}
use Rattle.es_semantic.proofs.ReferringSteps.{field_next, fields_at, fields_marked, fields_more, fields_referred, node_marked, node_referred, tree_next, trees_marked, trees_more, trees_referred}
use Rattle.es_semantic.proofs.Visits.{rest_count-more, rest_count-none, rest_tree_count-more, rest_tree_count-none}
use Rattle.es_semantic.proofs.referring.+refer.Goals as goal

-- the fields

pub mark_fields-mark_field-requires : goal.mark_fields-mark_field-requires
mark_fields-mark_field-requires t c =
    let i = c.loop-index.index in let items = c.loop-index.fields in let x = c.index-fields-index.result in
    let inside : i < length items = omega (arith, c.loop-index-test.true, c.loop-index.auto.fields) in
    let within = field_within c.args.fields.now items i x inside c.loop-index.invariant.later in
    let known : IsKnown c.at.result (scope_count c.args.scoping.now) = subst (λ h. IsKnown h (scope_count c.args.scoping.now)) (sym c.at.ensures) (c.requires.known i) in
    let count = rest_count-more i items x x inside c.index-fields-index.is in
    let room : c.loop-index.next + scope_count_in_field (plain_field x) ≤ scope_count c.loop-index.scoping = omega (arith, count, c.loop-index.invariant.counted, c.loop-index.invariant.kept, c.requires.room) in
    (omega (arith, within), (subst (IsKnown c.at.result) (sym c.loop-index.invariant.kept) known, subst (λ y. c.loop-index.next + scope_count_in_field (plain_field y) ≤ scope_count c.loop-index.scoping) c.index-fields-index.is room))

pub mark_fields-loop-index-preserved : goal.mark_fields-loop-index-preserved
mark_fields-loop-index-preserved t c =
    let i = c.loop-index.index in let items = c.loop-index.fields in let x = c.index-fields-index.result in let y = c.mark_field.new.field in
    let s = c.loop-index.scoping in let n = c.loop-index.next in
    let inside : i < length items = omega (arith, c.loop-index-test.true, c.loop-index.auto.fields) in
    let counted : c.mark_field.new.next ≡ n + scope_count_in_field (plain_field x) = rw (← c.index-fields-index.is) at c.in_ok-mark_field.ensures.counted in
    let marked : (p : Place) (rows : List ScopeRow) (ds : List Declared) → IsAt c.at.result p rows ds s n (visits_in_field p n (plain_field x)) → plain_field y ≡ marked_in_field ds p n (reference_count s) (plain_field x) = rw (← c.index-fields-index.is) at c.in_ok-mark_field.ensures.marked in
    let referred : (p : Place) (rows : List ScopeRow) (ds : List Declared) → IsAt c.at.result p rows ds s n (visits_in_field p n (plain_field x)) → HasReferencesMore s c.mark_field.new.scoping (references_among ds (visits_in_field p n (plain_field x))) = rw (← c.index-fields-index.is) at c.in_ok-mark_field.ensures.referred in
    let count = rest_count-more i items x y inside c.index-fields-index.is in
    record {
      later = later_more c.args.fields.now items i y c.loop-index.invariant.later;
      kept = c.in_ok-mark_field.ensures.kept ∙ c.loop-index.invariant.kept;
      counted = rw (add-one i) (omega (arith, counted, count, c.loop-index.invariant.counted));
      left = λ ps rows ds given.
          let left = c.loop-index.invariant.left ps rows ds given in
          let stands : StandsAs c.at.result (ps i) = subst (λ h. StandsAs h (ps i)) (sym c.at.ensures) (given.stands i) in
          let here = field_next c.at.result ps rows ds c.args.scoping.now c.args.next.now (plain_fields c.args.fields.now) i items x s n inside c.index-fields-index.is stands left in
          rw (add-one i)
          (fields_more ps rows ds c.args.scoping.now c.args.next.now (plain_fields c.args.fields.now) i items x y s c.mark_field.new.scoping n c.mark_field.new.next inside c.index-fields-index.is counted (marked (ps i) rows ds here) (referred (ps i) rows ds here) left);
    }

pub mark_fields-returns-clause-counted : goal.mark_fields-returns-clause-counted
mark_fields-returns-clause-counted t c =
    let none = rest_count-none c.loop-index.index c.loop-index.fields (omega (arith, c.loop-index-test.false, c.loop-index.auto.fields)) in
    omega (arith, none, c.loop-index.invariant.counted)

pub mark_fields-returns-clause-marked : goal.mark_fields-returns-clause-marked
mark_fields-returns-clause-marked t c = λ ps rows ds given.
    fields_marked ps rows ds c.args.scoping.now c.args.next.now (plain_fields c.args.fields.now) c.loop-index.index c.loop-index.fields c.loop-index.scoping c.loop-index.next (omega (arith, c.loop-index-test.false, c.loop-index.auto.fields)) (c.loop-index.invariant.left ps rows ds given)

pub mark_fields-returns-clause-referred : goal.mark_fields-returns-clause-referred
mark_fields-returns-clause-referred t c = λ ps rows ds given.
    fields_referred ps rows ds c.args.scoping.now c.args.next.now (plain_fields c.args.fields.now) c.loop-index.index c.loop-index.fields c.loop-index.scoping c.loop-index.next (omega (arith, c.loop-index-test.false, c.loop-index.auto.fields)) (c.loop-index.invariant.left ps rows ds given)

-- one field

-- what is said of the visits of a field, of those of another that is the same
same_field : (f g : Field) (held : WalkPlace) (p : Place) (rows : List ScopeRow) (ds : List Declared) (s s' : Scoping) (n : ℕ) → f ≡ g → (IsAt held p rows ds s n (visits_in_field p n g) → HasReferencesMore s s' (references_among ds (visits_in_field p n g))) →
    IsAt held p rows ds s n (visits_in_field p n f) → HasReferencesMore s s' (references_among ds (visits_in_field p n f))
same_field f g held p rows ds s s' n e h given =
    subst (λ k. HasReferencesMore s s' (references_among ds (visits_in_field p n k))) (sym e) (h (subst (λ k. IsAt held p rows ds s n (visits_in_field p n k)) e given))

pub mark_field-returns-in_ok-mark_node-in-One-clause-referred : goal.mark_field-returns-in_ok-mark_node-in-One-clause-referred
mark_field-returns-in_ok-mark_node-in-One-clause-referred t c = λ p rows ds.
    same_field _ _ c.args.place p rows ds c.args.scoping.now c.mark_node.new.scoping c.args.next.now (ap plain_field c.in-One.is) (c.in_ok-mark_node-in-One.ensures.referred p rows ds)

pub mark_field-returns-in_ok-mark_nodes-in-Many-clause-referred : goal.mark_field-returns-in_ok-mark_nodes-in-Many-clause-referred
mark_field-returns-in_ok-mark_nodes-in-Many-clause-referred t c = λ p rows ds.
    let same : plain_field c.args.field.now ≡ many (trees c.deref_mut.result.now) = ap plain_field c.in-Many.is ∙ ap (λ xs. many (trees xs)) (sym c.deref_mut.ensures.value) in
    same_field _ _ c.args.place p rows ds c.args.scoping.now c.mark_nodes.new.scoping c.args.next.now same (c.in_ok-mark_nodes-in-Many.ensures.referred p rows ds)

pub mark_field-returns-in_ok-mark_nodes-in-Statements-clause-referred : goal.mark_field-returns-in_ok-mark_nodes-in-Statements-clause-referred
mark_field-returns-in_ok-mark_nodes-in-Statements-clause-referred t c = λ p rows ds.
    let same : plain_field c.args.field.now ≡ statements (trees c.deref_mut-in-Statements.result.now) = ap plain_field c.in-Statements.is ∙ ap (λ xs. statements (trees xs)) (sym c.deref_mut-in-Statements.ensures.value) in
    same_field _ _ c.args.place p rows ds c.args.scoping.now c.mark_nodes-in-Statements.new.scoping c.args.next.now same (c.in_ok-mark_nodes-in-Statements.ensures.referred p rows ds)

-- a node

pub mark_node-mark_fields-requires : goal.mark_node-mark_fields-requires
mark_node-mark_fields-requires t c =
    let a = c.node.inside in let seen = c.args.node.now in
    let size : tree_size seen ≡ suc (fields_size (plain_fields c.deref_mut.result.now)) = ap tree_size (sym c.node.view_is) ∙ ap (λ xs. suc (fields_size (plain_fields xs))) (sym c.deref_mut.ensures.value) in
    let scopes : scope_count_in seen ≡ own_scope_count (kind_of seen) (fields_of seen) + scope_count_in_fields (plain_fields c.deref_mut.result.now) =
    subst (λ u. scope_count_in u ≡ own_scope_count (kind_of u) (fields_of u) + scope_count_in_fields (plain_fields c.deref_mut.result.now)) c.node.view_is (ap (λ xs. own_scope_count (head_of a.kind).kind (plain_fields a.fields.items) + scope_count_in_fields (plain_fields xs)) (sym c.deref_mut.ensures.value)) in
    let known = c.of_node-places.ensures.known c.args.next.now (scope_count c.args.scoping.now) c.requires.known c.in_ok-own.ensures.own (omega (arith, scopes, c.requires.room)) in
    (omega (arith, size), ((λ i. subst (IsKnown (held_at c.of_node-places.result i)) (sym c.in_ok-mark_kind.ensures.kept) (known i)), omega (arith, scopes, c.in_ok-own.ensures.counted, c.in_ok-mark_kind.ensures.kept, c.requires.room)))

pub mark_node-returns-clause-marked : goal.mark_node-returns-clause-marked
mark_node-returns-clause-marked t c = λ p rows ds given.
    let a = c.node.inside in let k = (head_of a.kind).kind in let l = label a.id a.span (head_of a.kind) in let fs = plain_fields a.fields.items in
    let s = c.args.scoping.now in let mid = c.mark_kind.new.scoping in let n = c.args.next.now in let m = c.number_scopes.new.next in
    let same : node k l fs ≡ c.args.node.now = c.node.view_is in
    let here : IsAt c.args.place p rows ds s n (visits p n (node k l fs)) = subst (λ u. IsAt c.args.place p rows ds s n (visits p n u)) (sym same) given in
    let count : m ≡ n + own_scope_count k fs = subst (λ u. m ≡ n + own_scope_count (kind_of u) (fields_of u)) (sym same) c.in_ok-own.ensures.counted in
    let stands : (i : ℕ) → StandsAs (held_at c.of_node-places.result i) (place_in p n k l fs i) =
    subst (λ u. (i : ℕ) → StandsAs (held_at c.of_node-places.result i) (place_in p n (kind_of u) (label_of u) (fields_of u) i)) (sym same) (c.of_node-places.ensures.stands p n here.stands c.in_ok-own.ensures.own) in
    let more : HasReferencesMore s mid (own_reference ds p k l) = c.in_ok-mark_kind.ensures.referred p rows ds a.span here.stands here.names here.chain in
    let inner : AreAt c.of_node-places.result (place_in p n k l fs) rows ds mid m (visits_in_fields (place_in p n k l fs) m fs) = fields_at c.args.place c.of_node-places.result p rows ds s mid n m k l fs count stands here more in
    let own : AreOwn c.in_ok-own.own n k fs = subst (λ u. AreOwn c.in_ok-own.own n (kind_of u) (fields_of u)) (sym same) c.in_ok-own.ensures.own in
    let marks = c.in_ok-mark_kind.ensures.marked p rows ds n fs a.span here.stands here.names here.chain own in
    let fields : (ps : ℕ → Place) (rows : List ScopeRow) (ds : List Declared) → AreAt c.of_node-places.result ps rows ds mid m (visits_in_fields ps m fs) → plain_fields c.mark_fields.new.fields ≡ marked_in_fields ds ps m (reference_count mid) fs = rw c.deref_mut.ensures.value at c.in_ok-mark_fields.ensures.marked in
    let back = written_back c.mark_fields.new.fields a.fields.items a.fields.len (omega (arith, c.mark_fields.auto.fields, ap length c.deref_mut.ensures.value, a.fields.ok.0)) in
    rw (← c.node.view_is, back)
    (node_marked p ds s mid n m k _ l _ fs (plain_fields c.mark_fields.new.fields) count c.in_ok-mark_kind.ensures.same marks more (fields (place_in p n k l fs) rows ds inner))

pub mark_node-returns-clause-referred : goal.mark_node-returns-clause-referred
mark_node-returns-clause-referred t c = λ p rows ds given.
    let a = c.node.inside in let k = (head_of a.kind).kind in let l = label a.id a.span (head_of a.kind) in let fs = plain_fields a.fields.items in
    let s = c.args.scoping.now in let mid = c.mark_kind.new.scoping in let n = c.args.next.now in let m = c.number_scopes.new.next in
    let same : node k l fs ≡ c.args.node.now = c.node.view_is in
    let here : IsAt c.args.place p rows ds s n (visits p n (node k l fs)) = subst (λ u. IsAt c.args.place p rows ds s n (visits p n u)) (sym same) given in
    let count : m ≡ n + own_scope_count k fs = subst (λ u. m ≡ n + own_scope_count (kind_of u) (fields_of u)) (sym same) c.in_ok-own.ensures.counted in
    let stands : (i : ℕ) → StandsAs (held_at c.of_node-places.result i) (place_in p n k l fs i) =
    subst (λ u. (i : ℕ) → StandsAs (held_at c.of_node-places.result i) (place_in p n (kind_of u) (label_of u) (fields_of u) i)) (sym same) (c.of_node-places.ensures.stands p n here.stands c.in_ok-own.ensures.own) in
    let more : HasReferencesMore s mid (own_reference ds p k l) = c.in_ok-mark_kind.ensures.referred p rows ds a.span here.stands here.names here.chain in
    let inner : AreAt c.of_node-places.result (place_in p n k l fs) rows ds mid m (visits_in_fields (place_in p n k l fs) m fs) = fields_at c.args.place c.of_node-places.result p rows ds s mid n m k l fs count stands here more in
    let fields : (ps : ℕ → Place) (rows : List ScopeRow) (ds : List Declared) → AreAt c.of_node-places.result ps rows ds mid m (visits_in_fields ps m fs) → HasReferencesMore mid c.mark_fields.new.scoping (references_among ds (visits_in_fields ps m fs)) = rw c.deref_mut.ensures.value at c.in_ok-mark_fields.ensures.referred in
    subst (λ u. HasReferencesMore s c.mark_fields.new.scoping (references_among ds (visits p n u))) same
    (node_referred p ds s mid c.mark_fields.new.scoping n m k l fs count more (fields (place_in p n k l fs) rows ds inner))

-- the nodes of a list

pub mark_nodes-mark_node-requires : goal.mark_nodes-mark_node-requires
mark_nodes-mark_node-requires t c =
    let i = c.loop-node.node-index in let items = c.loop-node.node-items in let x = c.node-item.result in
    let inside : i < length items = omega (arith, c.loop-node-test.true, c.loop-node.auto.node-items) in
    let within = tree_within c.args.nodes.now items i x inside c.loop-node.invariant.later in
    let count = rest_tree_count-more i items x x inside c.node-item.is in
    let room : c.loop-node.next + scope_count_in x ≤ scope_count c.loop-node.scoping = omega (arith, count, c.loop-node.invariant.counted, c.loop-node.invariant.kept, c.requires.room) in
    (omega (arith, within), (subst (IsKnown c.args.place) (sym c.loop-node.invariant.kept) c.requires.known, subst (λ y. c.loop-node.next + scope_count_in y ≤ scope_count c.loop-node.scoping) c.node-item.is room))

pub mark_nodes-loop-node-preserved : goal.mark_nodes-loop-node-preserved
mark_nodes-loop-node-preserved t c =
    let i = c.loop-node.node-index in let items = c.loop-node.node-items in let x = c.node-item.result in let y = c.mark_node.new.node in
    let s = c.loop-node.scoping in let n = c.loop-node.next in
    let inside : i < length items = omega (arith, c.loop-node-test.true, c.loop-node.auto.node-items) in
    let counted : c.mark_node.new.next ≡ n + scope_count_in x = rw (← c.node-item.is) at c.in_ok-mark_node.ensures.counted in
    let marked : (p : Place) (rows : List ScopeRow) (ds : List Declared) → IsAt c.args.place p rows ds s n (visits p n x) → y ≡ marked_tree ds p n (reference_count s) x = rw (← c.node-item.is) at c.in_ok-mark_node.ensures.marked in
    let referred : (p : Place) (rows : List ScopeRow) (ds : List Declared) → IsAt c.args.place p rows ds s n (visits p n x) → HasReferencesMore s c.mark_node.new.scoping (references_among ds (visits p n x)) = rw (← c.node-item.is) at c.in_ok-mark_node.ensures.referred in
    let count = rest_tree_count-more i items x y inside c.node-item.is in
    record {
      later = later_more c.args.nodes.now items i y c.loop-node.invariant.later;
      kept = c.in_ok-mark_node.ensures.kept ∙ c.loop-node.invariant.kept;
      counted = rw (add-one i) (omega (arith, counted, count, c.loop-node.invariant.counted));
      left = λ p rows ds given.
          let left = c.loop-node.invariant.left p rows ds given in
          let here = tree_next c.args.place p rows ds c.args.scoping.now c.args.next.now (trees c.args.nodes.now) i items x s n inside c.node-item.is given.stands left in
          rw (add-one i)
          (trees_more p rows ds c.args.scoping.now c.args.next.now (trees c.args.nodes.now) i items x y s c.mark_node.new.scoping n c.mark_node.new.next inside c.node-item.is counted (marked p rows ds here) (referred p rows ds here) left);
    }

pub mark_nodes-returns-clause-counted : goal.mark_nodes-returns-clause-counted
mark_nodes-returns-clause-counted t c =
    let none = rest_tree_count-none c.loop-node.node-index c.loop-node.node-items (omega (arith, c.loop-node-test.false, c.loop-node.auto.node-items)) in
    omega (arith, none, c.loop-node.invariant.counted)

pub mark_nodes-returns-clause-marked : goal.mark_nodes-returns-clause-marked
mark_nodes-returns-clause-marked t c = λ p rows ds given.
    trees_marked p rows ds c.args.scoping.now c.args.next.now (trees c.args.nodes.now) c.loop-node.node-index c.loop-node.node-items c.loop-node.scoping c.loop-node.next (omega (arith, c.loop-node-test.false, c.loop-node.auto.node-items)) (c.loop-node.invariant.left p rows ds given)

pub mark_nodes-returns-clause-referred : goal.mark_nodes-returns-clause-referred
mark_nodes-returns-clause-referred t c = λ p rows ds given.
    trees_referred p rows ds c.args.scoping.now c.args.next.now (trees c.args.nodes.now) c.loop-node.node-index c.loop-node.node-items c.loop-node.scoping c.loop-node.next (omega (arith, c.loop-node-test.false, c.loop-node.auto.node-items)) (c.loop-node.invariant.left p rows ds given)
