use Rattle.std.proofs.Common.{◌≡◌, ◌∙◌, ap, inl, inr, refl, sym, true}
use Rattle.es_tree.specs.Heads.{head_of}
use Rattle.es_tree.specs.Tree.{trees}
use Rattle.es_steps.specs.Slots.{closes, holds, holds_trees}
use Rattle.es_steps.specs.WrapRule.{is_wrapped_for}
use Rattle.es_nodes.proofs.Anys.{any_passes, none_more, or_true}
use Rattle.es_slots.proofs.Searches.{holds_at, holds_of, none-held, one-held}
use Rattle.es_slots.proofs.wrapped.+holds.Goals as goal

pub holds-returns-then-holds_in : goal.holds-returns-then-holds_in
holds-returns-then-holds_in t c =
    let test = is_wrapped_for c.args.options.now in
    let kind = (head_of c.node.inside.kind).kind in
    let found : true ≡ holds_of test (closes kind) c.deref-field-items.result.now =
    sym (one-held test (closes kind) c.deref-field-items.result.now c.loop-index.index c.field-item.result c.loop-index-test.true c.field-item.is
    (ap (λ b. holds_at test b c.field-item.result) (sym c.closes.ensures) ∙ sym c.if-holds_in.ensures)) in
    rw (← c.node.view_is, ← c.deref-field-items.ensures.value, ← found) (sym (or_true _))

pub holds-loop-index-preserved : goal.holds-loop-index-preserved
holds-loop-index-preserved t c =
    let test = is_wrapped_for c.args.options.now in
    let kind = (head_of c.node.inside.kind).kind in
    none-held test (closes kind) c.deref-field-items.result.now c.loop-index.index c.field-item.result c.loop-index-test.true c.field-item.is c.loop-index.invariant
    (ap (λ b. holds_at test b c.field-item.result) (sym c.closes.ensures) ∙ sym c.if-holds_in.ensures)

pub holds_in-returns-then-holds : goal.holds_in-returns-then-holds
holds_in-returns-then-holds t c =
    let test = is_wrapped_for c.args.options.now in
    let found : true ≡ holds_trees test (trees c.deref-node-items.result.now) =
    sym (any_passes (λ ts. holds_trees test (trees ts)) (holds test) refl (λ t ts. refl)
    c.deref-node-items.result.now c.loop-node.node-index c.node-item.result c.loop-node-test.true c.node-item.is (sym c.if-holds.ensures)) in
    let found_in_list : true ≡ holds_trees test (trees c.in-Many.nodes.items) = rw (← c.deref-node-items.ensures.value) found in
    rw c.if-closed.false (elim c.in-Many.is [
      | inl e ↦ rw e found_in_list
      | inr e ↦ rw e found_in_list
    ])

pub holds_in-loop-node-preserved : goal.holds_in-loop-node-preserved
holds_in-loop-node-preserved t c =
    let test = is_wrapped_for c.args.options.now in
    none_more (λ ts. holds_trees test (trees ts)) (holds test) refl (λ t ts. refl)
    c.deref-node-items.result.now c.loop-node.node-index c.node-item.result c.loop-node-test.true c.node-item.is c.loop-node.invariant (sym c.if-holds.ensures)
