use Rattle.std.proofs.Common.{◌≡◌, ◌≤◌, take, sym, ap, ◌∙◌, refl, arith}
use Rattle.std.proofs.lemmas.List.{take_all}
use Rattle.es_tree.specs.Tree.{field_size, fields_of, fields_size, kind_of, label_of, tree_size, trees}
use Rattle.es_tree.specs.Views.{plain_field, plain_fields}
use Rattle.es_scope.specs.Tables.{scope_count}
use Rattle.es_semantic.specs.Places.{place_in, visits_in_fields, visits_in_trees}
use Rattle.es_semantic.specs.Walks.{IsKnown}
use Rattle.es_semantic.proofs.AddedVisits.{Adds-fields_more, Adds-node, Adds-same, Adds-trees_more, IsKnown-more}
use Rattle.es_semantic.proofs.Remaining.{field_within, tree_within}
use Rattle.es_semantic.proofs.declaring.+declare.Goals as goal

-- fields

pub declare_fields-declare_field-requires : goal.declare_fields-declare_field-requires
declare_fields-declare_field-requires t c =
    let items = c.deref-field-items.result.now in let old = scope_count c.args.scoping.now in let now = scope_count c.loop-index.scoping in
    let more : old ≤ now = c.loop-index.invariant.kept in
    let known : IsKnown c.args.place now = IsKnown-more c.args.place old now more c.requires.known in
    let held : fields_of c.args.node.now ≡ plain_fields items = rw (c.deref-field-items.ensures.value, ← c.node.view_is) refl in
    let within = field_within items items c.loop-index.index c.field-item.result c.loop-index-test.true refl in (
      omega (arith, within, ap field_size (ap plain_field c.field-item.is), ap fields_size held),
      c.place_in-inner.ensures.known now known (λ m e. omega (arith, c.requires.own_known.name_known m e, more)) (λ m e. omega (arith, c.requires.own_known.own_known m e, more)),
    )

pub declare_fields-loop-index-preserved : goal.declare_fields-loop-index-preserved
declare_fields-loop-index-preserved t c =
    let node = c.args.node.now in
    record {
      kept = omega (arith, c.loop-index.invariant.kept, c.in_ok-declare_field.ensures.kept);
      declared = λ p n stands own.
          Adds-fields_more c.args.scoping.now c.loop-index.scoping c.declare_field.new.scoping (place_in p n (kind_of node) (label_of node) (fields_of node)) c.deref-field-items.result.now c.loop-index.index c.field-item.result c.loop-index-test.true c.field-item.is
          (c.loop-index.invariant.declared p n stands own)
          (c.in_ok-declare_field.ensures.declared (place_in p n (kind_of node) (label_of node) (fields_of node) c.loop-index.index) (c.place_in-inner.ensures.stands p n stands own));
    }

pub declare_fields-returns-clause-declared : goal.declare_fields-returns-clause-declared
declare_fields-returns-clause-declared t c = λ p n stands own.
    let node = c.args.node.now in let items = c.deref-field-items.result.now in
    let ps = place_in p n (kind_of node) (label_of node) (fields_of node) in
    let held : fields_of node ≡ plain_fields items = rw (c.deref-field-items.ensures.value, ← c.node.view_is) refl in
    Adds-same c.args.scoping.now c.loop-index.scoping (λ m. visits_in_fields ps m (plain_fields (take c.loop-index.index items))) (λ m. visits_in_fields ps m (fields_of node))
    (λ m. ap (visits_in_fields ps m) (ap plain_fields (take_all c.loop-index.index items c.loop-index-test.false) ∙ sym held))
    (c.loop-index.invariant.declared p n stands own)

-- a node

pub declare_node-returns-clause-declared : goal.declare_node-returns-clause-declared
declare_node-returns-clause-declared t c = λ p stands.
    let n = scope_count c.args.scoping.now in
    Adds-node c.args.scoping.now c.open_scopes.new.scoping c.declare_own.new.scoping c.declare_fields.new.scoping p c.args.node.now
    (λ rows ds holds. c.in_ok-own.ensures.opened p rows ds stands holds)
    (λ rows ds holds. c.in_ok-declare_own.ensures.declared p n rows ds stands c.in_ok-own.ensures.own holds)
    (c.in_ok-declare_fields.ensures.declared p n stands c.in_ok-own.ensures.own)

-- lists

pub declare_nodes-declare_node-requires : goal.declare_nodes-declare_node-requires
declare_nodes-declare_node-requires t c =
    let items = c.args.nodes.now in let old = scope_count c.args.scoping.now in let now = scope_count c.loop-node.scoping in
    let within = tree_within items items c.loop-node.node-index c.node-item.result c.loop-node-test.true refl in
    (omega (arith, within, ap tree_size c.node-item.is), IsKnown-more c.args.place old now c.loop-node.invariant.kept c.requires.known)

pub declare_nodes-loop-node-preserved : goal.declare_nodes-loop-node-preserved
declare_nodes-loop-node-preserved t c = record {
  kept = omega (arith, c.loop-node.invariant.kept, c.in_ok-declare_node.ensures.kept);
  declared = λ p stands.
      Adds-trees_more c.args.scoping.now c.loop-node.scoping c.declare_node.new.scoping p c.args.nodes.now c.loop-node.node-index c.node-item.result c.loop-node-test.true c.node-item.is
      (c.loop-node.invariant.declared p stands)
      (c.in_ok-declare_node.ensures.declared p stands);
}

pub declare_nodes-returns-clause-declared : goal.declare_nodes-returns-clause-declared
declare_nodes-returns-clause-declared t c = λ p stands.
    Adds-same c.args.scoping.now c.loop-node.scoping (λ n. visits_in_trees p n (trees (take c.loop-node.node-index c.args.nodes.now))) (λ n. visits_in_trees p n (trees c.args.nodes.now))
    (λ n. ap (λ ts. visits_in_trees p n (trees ts)) (take_all c.loop-node.node-index c.args.nodes.now c.loop-node-test.false))
    (c.loop-node.invariant.declared p stands)
