use Rattle.std.proofs.Common.{◌≡◌, ◌∙◌, ap, inl, inr, refl, sym, true}
use Rattle.es_tree.specs.Heads.{head_of}
use Rattle.es_tree.specs.Tree.{trees}
use Rattle.es_nodes.proofs.Anys.{any_passes, none_more, or_true}
use Rattle.es_bound_names.specs.BoundNames.{declares, declares_among, declares_at}
use Rattle.es_bound_names.proofs.FieldsInTurn.{declares_of, here, none-further, one-found}
use Rattle.es_bound_names.proofs.+declaring.Goals as goal

pub declares-returns-then-declares_by : goal.declares-returns-then-declares_by
declares-returns-then-declares_by t c =
    let x = c.args.name.now in
    let bs = declares_at c.args.declared (head_of c.node.inside.kind).kind in
    let found : true ≡ declares_of x bs c.deref-field-items.result.now =
    sym (one-found x bs c.deref-field-items.result.now c.loop-index.index c.field-item.result c.loop-index-test.true c.field-item.is
    (ap (λ b. here x b c.field-item.result) (sym c.declares_at.ensures) ∙ sym c.if-declares_by.ensures)) in
    rw (← c.node.view_is, ← c.deref-field-items.ensures.value, ← found) (sym (or_true _))

pub declares-loop-index-preserved : goal.declares-loop-index-preserved
declares-loop-index-preserved t c =
    let x = c.args.name.now in
    none-further x (declares_at c.args.declared (head_of c.node.inside.kind).kind) c.deref-field-items.result.now c.loop-index.index c.field-item.result c.loop-index-test.true c.field-item.is c.loop-index.invariant
    (ap (λ b. here x b c.field-item.result) (sym c.declares_at.ensures) ∙ sym c.if-declares_by.ensures)

pub declares_by-returns-then-declares : goal.declares_by-returns-then-declares
declares_by-returns-then-declares t c =
    let x = c.args.name.now in
    let found : true ≡ declares_among x c.args.declared (trees c.deref-node-items.result.now) =
    sym (any_passes (λ ts. declares_among x c.args.declared (trees ts)) (declares x c.args.declared) refl (λ t ts. refl)
    c.deref-node-items.result.now c.loop-node.node-index c.node-item.result c.loop-node-test.true c.node-item.is (sym c.if-declares.ensures)) in
    let found_in_list : true ≡ declares_among x c.args.declared (trees c.in-Many.nodes.items) = rw (← c.deref-node-items.ensures.value) found in
    elim c.in-Many.is [
      | inl e ↦ rw e found_in_list
      | inr e ↦ rw e found_in_list
    ]

pub declares_by-loop-node-preserved : goal.declares_by-loop-node-preserved
declares_by-loop-node-preserved t c =
    let x = c.args.name.now in
    none_more (λ ts. declares_among x c.args.declared (trees ts)) (declares x c.args.declared) refl (λ t ts. refl)
    c.deref-node-items.result.now c.loop-node.node-index c.node-item.result c.loop-node-test.true c.node-item.is c.loop-node.invariant (sym c.if-declares.ensures)
