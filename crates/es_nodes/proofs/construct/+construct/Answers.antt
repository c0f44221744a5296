use Rattle.std.proofs.Common.{◌≡◌, inl, inr, map, refl, sym, true}
use Rattle.es_tree.specs.Constructs.{is_enabled_construct}
use Rattle.es_tree.specs.Tree.{fields, trees}
use Rattle.es_tree.specs.Views.{plain_field}
use Rattle.es_tree.specs.Walks.{any_node, any_in_field, any_in_fields, any_in_trees}
use Rattle.es_nodes.proofs.Anys.{any_passes, none_more, or_true}
use Rattle.es_nodes.proofs.construct.+construct.Goals as goal

pub any_node-returns-then-any_in_field : goal.any_node-returns-then-any_in_field
any_node-returns-then-any_in_field t c =
    let test = is_enabled_construct c.args.options.now in
    let found : true ≡ any_in_fields test (fields (map plain_field c.deref-field-items.result.now)) =
    sym (any_passes (λ fs. any_in_fields test (fields (map plain_field fs))) (λ f. any_in_field test (plain_field f)) refl (λ f fs. refl)
    c.deref-field-items.result.now c.loop-field.field-index c.field-item.result c.loop-field-test.true c.field-item.is (sym c.if-any_in_field.ensures)) in
    rw (← c.node.view_is, ← c.deref-field-items.ensures.value, ← found) (sym (or_true _))

pub any_node-loop-field-preserved : goal.any_node-loop-field-preserved
any_node-loop-field-preserved t c =
    let test = is_enabled_construct c.args.options.now in
    none_more (λ fs. any_in_fields test (fields (map plain_field fs))) (λ f. any_in_field test (plain_field f)) refl (λ f fs. refl)
    c.deref-field-items.result.now c.loop-field.field-index c.field-item.result c.loop-field-test.true c.field-item.is c.loop-field.invariant (sym c.if-any_in_field.ensures)

pub any_in_field-returns-then-any_node : goal.any_in_field-returns-then-any_node
any_in_field-returns-then-any_node t c =
    let test = is_enabled_construct c.args.options.now in
    let found : true ≡ any_in_trees test (trees c.deref-node-items.result.now) =
    sym (any_passes (λ ts. any_in_trees test (trees ts)) (any_node test) refl (λ t ts. refl)
    c.deref-node-items.result.now c.loop-node.node-index c.node-item.result c.loop-node-test.true c.node-item.is (sym c.if-any_node.ensures)) in
    let found_in_list : true ≡ any_in_trees test (trees c.in-Many.nodes.items) = rw (← c.deref-node-items.ensures.value) found in
    elim c.in-Many.is [
      | inl e ↦ rw e found_in_list
      | inr e ↦ rw e found_in_list
    ]

pub any_in_field-loop-node-preserved : goal.any_in_field-loop-node-preserved
any_in_field-loop-node-preserved t c =
    let test = is_enabled_construct c.args.options.now in
    none_more (λ ts. any_in_trees test (trees ts)) (any_node test) refl (λ t ts. refl)
    c.deref-node-items.result.now c.loop-node.node-index c.node-item.result c.loop-node-test.true c.node-item.is c.loop-node.invariant (sym c.if-any_node.ensures)
