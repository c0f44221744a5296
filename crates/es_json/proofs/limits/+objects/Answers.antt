use Rattle.std.proofs.Common.{[], ◌∷◌, ◌++◌, sym, ap, ◌∙◌, append_assoc, arith}
use Rattle.serde_json.specs.View.{view}
use Rattle.serde_json.proofs.Views.{Entry}
use Rattle.es_json.specs.Limits.{objects}
use Rattle.es_json.proofs.Sizes.{one_more_item, one_more_member}
use Rattle.es_json.proofs.limits.+objects.Goals as goal

pub items_objects-loop-item-preserved : goal.items_objects-loop-item-preserved
items_objects-loop-item-preserved t c =
    omega (arith, one_more_item c.deref-item-items.result.now c.loop-item.item-index c.item-item.result c.loop-item-test.true, ap (λ x. objects (view x)) c.item-item.is, c.value_objects.ensures, c.saturating_add-count.ensures, c.loop-item.invariant)

pub members_objects-loop-key-preserved : goal.members_objects-loop-key-preserved
members_objects-loop-key-preserved t c =
    let done = c.loop-key.invariant.0 in
    let e : Entry = (c.in-Some._key.now, c.in-Some.member.now) in (
      done ++ e ∷ [],
      c.loop-key.invariant.1 ∙ ap (λ es. done ++ es) c.in-Some.ensures.steps ∙ sym (append_assoc done (e ∷ []) c.next.new.self),
      omega (arith, one_more_member done e, c.value_objects.ensures, c.saturating_add-count.ensures, c.loop-key.invariant.2),
    )
