use Rattle.std.proofs.Common.{◌≡◌, ◌≤◌, [], ap, arith, inl, inr, length, refl, sym, true}
use Rattle.std.specs.List.{list_any}
use borrow.Author.Tests.{false-ltb}
use Rattle.es_tree.specs.BoundNames.{bound_identifiers}
use Rattle.es_tree.specs.Views.{plain_field}
use Rattle.es_tree.proofs.BoundNames.{no_second}
use Rattle.es_nodes.proofs.Anys.{any_passes, none_more}
use Rattle.es_pattern_moves.specs.PatternMoves.{is_called}
use Rattle.es_rest_rows.specs.RestRows.{binds_name}
use Rattle.es_move_nodes.specs.MoveFields.{binds_in_field}
use Rattle.es_move_nodes.proofs.MoveTests.{binds_in_fields, binds_in_nodes, fields-step, nodes-step}
use Rattle.es_move_nodes.proofs.bound.+bound.Goals as goal

pub binds_name-returns-then-binds_in_field : goal.binds_name-returns-then-binds_in_field
binds_name-returns-then-binds_in_field t c =
    let x = c.args.name.now in
    let found : true ≡ binds_in_fields x c.deref-element-items.result.now =
    sym (any_passes (binds_in_fields x) (λ f. binds_in_field x (plain_field f)) refl (fields-step x)
    c.deref-element-items.result.now c.loop-element.element-index c.element-item.result c.loop-element-test.true c.element-item.is (sym c.if-binds_in_field.ensures)) in
    rw (← c.pattern.view_is, c.in-ArrayPattern.is, ← c.deref-element-items.ensures.value) found

pub binds_name-loop-element-preserved : goal.binds_name-loop-element-preserved
binds_name-loop-element-preserved t c =
    let x = c.args.name.now in
    none_more (binds_in_fields x) (λ f. binds_in_field x (plain_field f)) refl (fields-step x)
    c.deref-element-items.result.now c.loop-element.element-index c.element-item.result c.loop-element-test.true c.element-item.is c.loop-element.invariant (sym c.if-binds_in_field.ensures)

pub binds_in_field-returns-then-binds_name : goal.binds_in_field-returns-then-binds_name
binds_in_field-returns-then-binds_name t c =
    let x = c.args.name.now in
    let found : true ≡ binds_in_nodes x c.deref-node-items.result.now =
    sym (any_passes (binds_in_nodes x) (binds_name x) refl (nodes-step x)
    c.deref-node-items.result.now c.loop-node.node-index c.node-item.result c.loop-node-test.true c.node-item.is (sym c.if-binds_name.ensures)) in
    let found_in_list : true ≡ binds_in_nodes x c.in-Many.nodes.items = rw (← c.deref-node-items.ensures.value) found in
    elim c.in-Many.is [
      | inl e ↦ rw e found_in_list
      | inr e ↦ rw e found_in_list
    ]

pub binds_in_field-loop-node-preserved : goal.binds_in_field-loop-node-preserved
binds_in_field-loop-node-preserved t c =
    let x = c.args.name.now in
    none_more (binds_in_nodes x) (binds_name x) refl (nodes-step x)
    c.deref-node-items.result.now c.loop-node.node-index c.node-item.result c.loop-node-test.true c.node-item.is c.loop-node.invariant (sym c.if-binds_name.ensures)

pub binds_name-returns-in-None : goal.binds_name-returns-in-None
binds_name-returns-in-None t c =
    let few : length c.deref.result.now ≤ 1 = omega (arith, false-ltb _ (length c.deref.result.now) c.in-None.ensures.lookup.0) in
    let none : bound_identifiers c.args.pattern.now ≡ [] = rw (← c.pattern.view_is, c.in-PatternProperty.is) (no_second c.pattern.inside.fields.items (rw c.deref.ensures.value at few)) in
    sym (ap (list_any (is_called c.args.name.now)) none)
