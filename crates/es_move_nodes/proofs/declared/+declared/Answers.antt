use Rattle.std.proofs.Common.{◌≡◌, inl, inr, refl, sym, true}
use Rattle.es_tree.specs.Tree.{trees}
use Rattle.es_tree.specs.Views.{plain_field, plain_fields}
use Rattle.es_nodes.proofs.Anys.{any_passes, none_more, or_true}
use Rattle.es_pattern_moves.specs.PatternMoves.{var_among, var_declares, var_in_field, var_in_fields}
use Rattle.es_move_nodes.proofs.declared.+declared.Goals as goal

pub var_declares-returns-then-var_in_field : goal.var_declares-returns-then-var_in_field
var_declares-returns-then-var_in_field t c =
    let x = c.args.name.now in
    let found : true ≡ var_in_fields x (plain_fields c.deref-field-items.result.now) =
    sym (any_passes (λ fs. var_in_fields x (plain_fields fs)) (λ f. var_in_field x (plain_field f)) refl (λ f fs. refl)
    c.deref-field-items.result.now c.loop-field.field-index c.field-item.result c.loop-field-test.true c.field-item.is (sym c.if-var_in_field.ensures)) in
    rw (← c.node.view_is, ← c.if-is_var_scope.ensures, ← c.deref-field-items.ensures.value, ← found) (sym (or_true _))

pub var_declares-loop-field-preserved : goal.var_declares-loop-field-preserved
var_declares-loop-field-preserved t c =
    let x = c.args.name.now in
    none_more (λ fs. var_in_fields x (plain_fields fs)) (λ f. var_in_field x (plain_field f)) refl (λ f fs. refl)
    c.deref-field-items.result.now c.loop-field.field-index c.field-item.result c.loop-field-test.true c.field-item.is c.loop-field.invariant (sym c.if-var_in_field.ensures)

pub var_in_field-returns-then-var_declares : goal.var_in_field-returns-then-var_declares
var_in_field-returns-then-var_declares t c =
    let x = c.args.name.now in
    let found : true ≡ var_among x (trees c.deref-node-items.result.now) =
    sym (any_passes (λ ts. var_among x (trees ts)) (var_declares x) refl (λ t ts. refl)
    c.deref-node-items.result.now c.loop-node.node-index c.node-item.result c.loop-node-test.true c.node-item.is (sym c.if-var_declares.ensures)) in
    let found_in_list : true ≡ var_among x (trees c.in-Many.nodes.items) = rw (← c.deref-node-items.ensures.value) found in
    elim c.in-Many.is [
      | inl e ↦ rw e found_in_list
      | inr e ↦ rw e found_in_list
    ]

pub var_in_field-loop-node-preserved : goal.var_in_field-loop-node-preserved
var_in_field-loop-node-preserved t c =
    let x = c.args.name.now in
    none_more (λ ts. var_among x (trees ts)) (var_declares x) refl (λ t ts. refl)
    c.deref-node-items.result.now c.loop-node.node-index c.node-item.result c.loop-node-test.true c.node-item.is c.loop-node.invariant (sym c.if-var_declares.ensures)
