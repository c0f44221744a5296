use Rattle.std.proofs.Common.{◌≡◌, ◌∙◌, ap, false, inl, inr, refl, sym, true}
use Rattle.std.specs.Prelude.{◌&&◌, not}
use Rattle.std.proofs.lemmas.List.{take_all}
use Rattle.es_tree.specs.Tree.{fields_of, trees}
use Rattle.es_tree.specs.Views.{plain_field, plain_fields}
use Rattle.es_nodes.proofs.Anys.{any_passes, none_more}
use Rattle.es_unsupported.specs.EarlySuper.{arrow_this, arrow_this_among, arrow_this_by}
use Rattle.es_unsupported.proofs.EarlyWalks.{decided, keeps_of, none-stands, one-stands, stands}
use Rattle.es_unsupported.proofs.early_super.+arrow_this.Goals as goal
use Rattle.es_unsupported.proofs.early_super.+arrow_this.Goals.{arrow_this-else-not-keeps_this-via-then-not-keeps_this+else-arrow_this_by, arrow_this-else-not-keeps_this-via-else-not-keeps_this}

pub arrow_this-returns-then-arrow_this_by : goal.arrow_this-returns-then-arrow_this_by
arrow_this-returns-then-arrow_this_by t c =
    let u = c.args.node.now in let fs = c.deref-field-items.result.now in let within = c.leads_inside-within.result in
    let parts : plain_fields fs ≡ fields_of u = ap plain_fields c.deref-field-items.ensures.value ∙ ap fields_of c.node.view_is in
    decided c.args.inside false within true u fs parts c.if-is_this_inside.ensures c.leads_inside-within.ensures
    (one-stands within (keeps_of u) fs c.loop-index.index c.field-item.result c.loop-index-test.true c.field-item.is c.loop-index.invariant (λ i. not (sym (c.if-not-keeps_this.ensures {u = tt}) i) && sym c.if-arrow_this_by.ensures i))

pub arrow_this-loop-index-preserved : goal.arrow_this-loop-index-preserved
arrow_this-loop-index-preserved t c =
    let u = c.args.node.now in let within = c.leads_inside-within.result in
    none-stands within (keeps_of u) c.deref-field-items.result.now c.loop-index.index c.field-item.result c.loop-index-test.true c.field-item.is c.loop-index.invariant
    (elim c.else-not-keeps_this.branch [
      | arrow_this-else-not-keeps_this-via-then-not-keeps_this+else-arrow_this_by w ↦ λ i. not (sym (w.if-not-keeps_this.ensures {u = tt}) i) && sym w.if-arrow_this_by.ensures i
      | arrow_this-else-not-keeps_this-via-else-not-keeps_this w ↦ ap (λ b. not b && arrow_this_by within (plain_field c.field-item.result)) (sym (w.if-not-keeps_this.ensures {u = tt}))
    ])

pub arrow_this-returns : goal.arrow_this-returns
arrow_this-returns t c =
    let u = c.args.node.now in let fs = c.deref-field-items.result.now in let within = c.leads_inside-within.result in
    let parts : plain_fields fs ≡ fields_of u = ap plain_fields c.deref-field-items.ensures.value ∙ ap fields_of c.node.view_is in
    decided c.args.inside false within false u fs parts c.if-is_this_inside.ensures c.leads_inside-within.ensures
    (ap (stands within (keeps_of u)) (sym (take_all c.loop-index.index fs c.loop-index-test.false)) ∙ c.loop-index.invariant)

pub arrow_this_by-returns-then-arrow_this : goal.arrow_this_by-returns-then-arrow_this
arrow_this_by-returns-then-arrow_this t c =
    let inside = c.args.inside in
    let found : true ≡ arrow_this_among inside (trees c.deref-node-items.result.now) =
    sym (any_passes (λ ts. arrow_this_among inside (trees ts)) (arrow_this inside) refl (λ t ts. refl)
    c.deref-node-items.result.now c.loop-node.node-index c.node-item.result c.loop-node-test.true c.node-item.is (sym c.if-arrow_this.ensures)) in
    let found_in_list : true ≡ arrow_this_among inside (trees c.in-Many.nodes.items) = rw (← c.deref-node-items.ensures.value) found in
    elim c.in-Many.is [
      | inl e ↦ rw e found_in_list
      | inr e ↦ rw e found_in_list
    ]

pub arrow_this_by-loop-node-preserved : goal.arrow_this_by-loop-node-preserved
arrow_this_by-loop-node-preserved t c =
    let inside = c.args.inside in
    none_more (λ ts. arrow_this_among inside (trees ts)) (arrow_this inside) refl (λ t ts. refl)
    c.deref-node-items.result.now c.loop-node.node-index c.node-item.result c.loop-node-test.true c.node-item.is c.loop-node.invariant (sym c.if-arrow_this.ensures)
