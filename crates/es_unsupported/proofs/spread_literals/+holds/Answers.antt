use Rattle.std.proofs.Common.{◌≡◌, inl, inr, map, refl, sym, true}
use Rattle.es_tree.specs.Tree.{fields, trees}
use Rattle.es_tree.specs.Views.{plain_field}
use Rattle.es_nodes.proofs.Anys.{any_passes, none_more}
use Rattle.es_unsupported.specs.SpreadLiterals.{holds_super, holds_super_among, holds_super_by, holds_super_in}
use Rattle.es_unsupported.proofs.spread_literals.+holds.Goals as goal

pub holds_super_by-returns-then-holds_super : goal.holds_super_by-returns-then-holds_super
holds_super_by-returns-then-holds_super t c =
    let found : true ≡ holds_super_among (trees c.deref-node-items.result.now) =
    sym (any_passes (λ ts. holds_super_among (trees ts)) holds_super refl (λ t ts. refl)
    c.deref-node-items.result.now c.loop-node.node-index c.node-item.result c.loop-node-test.true c.node-item.is (sym c.if-holds_super.ensures)) in
    let found_in_list : true ≡ holds_super_among (trees c.in-Many.nodes.items) = rw (← c.deref-node-items.ensures.value) found in
    elim c.in-Many.is [
      | inl e ↦ rw e found_in_list
      | inr e ↦ rw e found_in_list
    ]

pub holds_super_by-loop-node-preserved : goal.holds_super_by-loop-node-preserved
holds_super_by-loop-node-preserved t c =
    none_more (λ ts. holds_super_among (trees ts)) holds_super refl (λ t ts. refl)
    c.deref-node-items.result.now c.loop-node.node-index c.node-item.result c.loop-node-test.true c.node-item.is c.loop-node.invariant (sym c.if-holds_super.ensures)

pub holds_super_in-returns-then-holds_super_by : goal.holds_super_in-returns-then-holds_super_by
holds_super_in-returns-then-holds_super_by t c =
    sym (any_passes (λ fs. holds_super_in (fields (map plain_field fs))) (λ f. holds_super_by (plain_field f)) refl (λ f fs. refl)
    c.args.fields.now c.loop-field.field-index c.field-item.result c.loop-field-test.true c.field-item.is (sym c.if-holds_super_by.ensures))

pub holds_super_in-loop-field-preserved : goal.holds_super_in-loop-field-preserved
holds_super_in-loop-field-preserved t c =
    none_more (λ fs. holds_super_in (fields (map plain_field fs))) (λ f. holds_super_by (plain_field f)) refl (λ f fs. refl)
    c.args.fields.now c.loop-field.field-index c.field-item.result c.loop-field-test.true c.field-item.is c.loop-field.invariant (sym c.if-holds_super_by.ensures)
