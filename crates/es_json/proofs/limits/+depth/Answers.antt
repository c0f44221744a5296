use Rattle.std.proofs.Common.{[], ◌∷◌, ◌++◌, sym, ap, ◌∙◌, append_assoc, arith}
use Rattle.serde_json.specs.View.{view}
use Rattle.serde_json.proofs.Views.{Entry}
use Rattle.serde_json.specs.Data.{depth}
use Rattle.es_json.proofs.Sizes.{item_deeper, member_deeper}
use Rattle.es_json.proofs.limits.+depth.Goals as goal

pub items_depth-loop-item-preserved : goal.items_depth-loop-item-preserved
items_depth-loop-item-preserved t c =
    omega (arith, item_deeper c.deref-item-items.result.now c.loop-item.item-index c.item-item.result c.loop-item-test.true, ap (λ x. depth (view x)) c.item-item.is, c.value_depth.ensures, c.max-deepest.ensures, c.loop-item.invariant)

pub members_depth-loop-key-preserved : goal.members_depth-loop-key-preserved
members_depth-loop-key-preserved t c =
    let done = c.loop-key.invariant.0 in
    let e : Entry = (c.in-Some._key.now, c.in-Some.member.now) in (
      done ++ e ∷ [],
      c.loop-key.invariant.1 ∙ ap (λ es. done ++ es) c.in-Some.ensures.steps ∙ sym (append_assoc done (e ∷ []) c.next.new.self),
      omega (arith, member_deeper done e, c.value_depth.ensures, c.max-deepest.ensures, c.loop-key.invariant.2),
    )
