use Rattle.std.proofs.Common.{◌≡◌, ◌++◌, map, take, ap, sym, ◌∙◌}
use Rattle.std.proofs.lemmas.List.{take_all}
use Rattle.es_tree.specs.Heads.{head_of}
use Rattle.es_tree.specs.Tree.{fields}
use Rattle.es_tree.specs.Views.{plain_field}
use Rattle.es_scope.specs.OuterScopes.{is_outside, outer_in_field, outer_in_fields, outer_of, outer_scopes, scope_mark}
use Rattle.es_scope.proofs.OuterScopes.{found_more, outer_in_fields-more, outer_in_trees-more}
use Rattle.es_scope.proofs.outer_scopes.+outer.Goals as goal

pub push_outer-loop-index-preserved : goal.push_outer-loop-index-preserved
push_outer-loop-index-preserved t c =
    let head = head_of c.node.inside.kind in
    found_more _ _ _ _ _ _ c.loop-index.invariant
    (c.in_ok-push_outer_in_field.ensures ∙ ap (λ b. map (λ s. s.0) c.loop-index.found.items ++ outer_in_field c.args.scoping.now c.args.up.0 b (plain_field c.field-item.result)) c.is_outside.ensures)
    (outer_in_fields-more c.args.scoping.now c.args.up.0 (is_outside head.kind head.marks) c.deref-field-items.result.now c.loop-index.index c.field-item.result c.loop-index-test.true c.field-item.is)

pub push_outer_in_field-loop-node-preserved : goal.push_outer_in_field-loop-node-preserved
push_outer_in_field-loop-node-preserved t c =
    found_more _ _ _ _ _ _ c.loop-node.invariant c.in_ok-push_outer-in-Many.ensures
    (outer_in_trees-more c.args.scoping.now c.args.up.0 c.deref-node-items.result.now c.loop-node.node-index c.node-item.result c.loop-node-test.true c.node-item.is)

pub push_outer-returns : goal.push_outer-returns
push_outer-returns t c =
    let inside = c.node.inside in
    let head = head_of inside.kind in
    let s = c.args.scoping.now in
    let up = c.args.up.0 in
    let whole : outer_scopes s up c.args.node.now ≡ outer_of s up (scope_mark head.kind head.marks) ++ outer_in_fields s up (is_outside head.kind head.marks) (fields (map plain_field (take c.loop-index.index c.deref-field-items.result.now))) =
    rw (take_all c.loop-index.index c.deref-field-items.result.now c.loop-index-test.false, c.deref-field-items.ensures.value) (ap (outer_scopes s up) (sym c.node.view_is)) in
    found_more _ _ _ _ _ _ (c.in_ok-push_outer_of.ensures ∙ ap (λ o. map (λ x. x.0) c.args.found.now.items ++ outer_of s up o) c.scope_of.ensures) c.loop-index.invariant whole
