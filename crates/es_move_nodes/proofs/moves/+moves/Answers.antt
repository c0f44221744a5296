use Rattle.std.proofs.Common.{◌≡◌, inl, inr, refl, sym, true}
use Rattle.es_tree.specs.Tree.{trees}
use Rattle.es_tree.specs.Views.{plain_field, plain_fields}
use Rattle.es_tree.specs.Walks.{any_in_field, any_in_fields, any_in_trees, any_node}
use Rattle.es_nodes.proofs.Anys.{any_passes, none_more, or_true}
use Rattle.es_pattern_moves.specs.PatternMoves.{moves_pattern}
use Rattle.es_move_nodes.proofs.moves.+moves.Goals as goal

pub has_moves-returns-then-has_moves_in_field : goal.has_moves-returns-then-has_moves_in_field
has_moves-returns-then-has_moves_in_field t c =
    let found : true ≡ any_in_fields moves_pattern (plain_fields c.deref-field-items.result.now) =
    sym (any_passes (λ fs. any_in_fields moves_pattern (plain_fields fs)) (λ f. any_in_field moves_pattern (plain_field f)) refl (λ f fs. refl)
    c.deref-field-items.result.now c.loop-field.field-index c.field-item.result c.loop-field-test.true c.field-item.is (sym c.if-has_moves_in_field.ensures)) in
    rw (← c.program.view_is, ← c.deref-field-items.ensures.value, ← found) (sym (or_true _))

pub has_moves-loop-field-preserved : goal.has_moves-loop-field-preserved
has_moves-loop-field-preserved t c =
    none_more (λ fs. any_in_fields moves_pattern (plain_fields fs)) (λ f. any_in_field moves_pattern (plain_field f)) refl (λ f fs. refl)
    c.deref-field-items.result.now c.loop-field.field-index c.field-item.result c.loop-field-test.true c.field-item.is c.loop-field.invariant (sym c.if-has_moves_in_field.ensures)

pub has_moves_in_field-returns-then-has_moves : goal.has_moves_in_field-returns-then-has_moves
has_moves_in_field-returns-then-has_moves t c =
    let found : true ≡ any_in_trees moves_pattern (trees c.deref-node-items.result.now) =
    sym (any_passes (λ ts. any_in_trees moves_pattern (trees ts)) (any_node moves_pattern) refl (λ t ts. refl)
    c.deref-node-items.result.now c.loop-node.node-index c.node-item.result c.loop-node-test.true c.node-item.is (sym c.if-has_moves.ensures)) in
    let found_in_list : true ≡ any_in_trees moves_pattern (trees c.in-Many.nodes.items) = rw (← c.deref-node-items.ensures.value) found in
    elim c.in-Many.is [
      | inl e ↦ rw e found_in_list
      | inr e ↦ rw e found_in_list
    ]

pub has_moves_in_field-loop-node-preserved : goal.has_moves_in_field-loop-node-preserved
has_moves_in_field-loop-node-preserved t c =
    none_more (λ ts. any_in_trees moves_pattern (trees ts)) (any_node moves_pattern) refl (λ t ts. refl)
    c.deref-node-items.result.now c.loop-node.node-index c.node-item.result c.loop-node-test.true c.node-item.is c.loop-node.invariant (sym c.if-has_moves.ensures)
