use Rattle.std.proofs.Common.{◌≡◌, inl, inr, refl, sym, true}
use Rattle.es_searches.specs.Searches.{is_sought}
use Rattle.es_tree.specs.Tree.{trees}
use Rattle.es_tree.specs.Views.{plain_field, plain_fields}
use Rattle.es_tree.specs.Walks.{any_in_field, any_in_fields, any_in_trees, any_node}
use Rattle.es_nodes.proofs.Anys.{any_passes, none_more, or_true}
use Rattle.es_searches.proofs.+search.Goals as goal

pub has_node-returns-then-has_node_in_field : goal.has_node-returns-then-has_node_in_field
has_node-returns-then-has_node_in_field t c =
    let found : true ≡ any_in_fields (is_sought c.args.sought) (plain_fields c.deref-field-items.result.now) =
    sym (any_passes (λ fs. any_in_fields (is_sought c.args.sought) (plain_fields fs)) (λ f. any_in_field (is_sought c.args.sought) (plain_field f)) refl (λ f fs. refl)
    c.deref-field-items.result.now c.loop-field.field-index c.field-item.result c.loop-field-test.true c.field-item.is (sym c.if-has_node_in_field.ensures)) in
    rw (← c.program.view_is, ← c.deref-field-items.ensures.value, ← found) (sym (or_true _))

pub has_node-loop-field-preserved : goal.has_node-loop-field-preserved
has_node-loop-field-preserved t c =
    none_more (λ fs. any_in_fields (is_sought c.args.sought) (plain_fields fs)) (λ f. any_in_field (is_sought c.args.sought) (plain_field f)) refl (λ f fs. refl)
    c.deref-field-items.result.now c.loop-field.field-index c.field-item.result c.loop-field-test.true c.field-item.is c.loop-field.invariant (sym c.if-has_node_in_field.ensures)

pub has_node_in_field-returns-then-has_node : goal.has_node_in_field-returns-then-has_node
has_node_in_field-returns-then-has_node t c =
    let found : true ≡ any_in_trees (is_sought c.args.sought) (trees c.deref-node-items.result.now) =
    sym (any_passes (λ ts. any_in_trees (is_sought c.args.sought) (trees ts)) (any_node (is_sought c.args.sought)) refl (λ t ts. refl)
    c.deref-node-items.result.now c.loop-node.node-index c.node-item.result c.loop-node-test.true c.node-item.is (sym c.if-has_node.ensures)) in
    let found_in_list : true ≡ any_in_trees (is_sought c.args.sought) (trees c.in-Many.nodes.items) = rw (← c.deref-node-items.ensures.value) found in
    elim c.in-Many.is [
      | inl e ↦ rw e found_in_list
      | inr e ↦ rw e found_in_list
    ]

pub has_node_in_field-loop-node-preserved : goal.has_node_in_field-loop-node-preserved
has_node_in_field-loop-node-preserved t c =
    none_more (λ ts. any_in_trees (is_sought c.args.sought) (trees ts)) (any_node (is_sought c.args.sought)) refl (λ t ts. refl)
    c.deref-node-items.result.now c.loop-node.node-index c.node-item.result c.loop-node-test.true c.node-item.is c.loop-node.invariant (sym c.if-has_node.ensures)
