use Rattle.std.proofs.Common.{◌∙◌, List, None, subst, sym}
use Rattle.std.specs.Vec.Iter.{into_iter_items}
use Rattle.es_tree.specs.Tree.{Tree}
use Rattle.lower_object_spread.proofs.Copying.{CopiedSoFar, copied-all, copied-first, copied-next, is-copied, last-room, next-room, next-whole}
use Rattle.lower_object_spread.proofs.copies.copy_properties.Goals as goal

pub loop-property-init : goal.loop-property-init
loop-property-init c =
    let ctx = c.args.ctx.now in
    let all = c.args.properties.items in
    subst (λ (rest : List Tree). CopiedSoFar ctx ctx all None c.new.result.items rest) (sym c.into_iter-property-iterator.ensures.into_iter_gives.0)
    (subst (λ (ps : List Tree). CopiedSoFar ctx ctx all None ps all) (sym c.new.ensures.items) (copied-first ctx all c.requires.spread c.requires.whole))

pub add_property-requires-clause-whole : goal.add_property-requires-clause-whole
add_property-requires-clause-whole c =
    let old = c.args.ctx.now in
    let mid = c.loop-property.ctx in
    let all = c.args.properties.items in
    let now = c.loop-property.copied in
    next-whole old mid mid all now.copy now.pending.items c.in-Some.property (into_iter_items c.next.new.self) (subst (λ (ts : List Tree). CopiedSoFar old mid all now.copy now.pending.items ts) c.in-Some.ensures.steps.0 c.loop-property.invariant)

pub add_property-requires-clause-room : goal.add_property-requires-clause-room
add_property-requires-clause-room c =
    let old = c.args.ctx.now in
    let mid = c.loop-property.ctx in
    let all = c.args.properties.items in
    let now = c.loop-property.copied in
    next-room old mid mid all now.copy now.pending.items c.in-Some.property (into_iter_items c.next.new.self) (subst (λ (ts : List Tree). CopiedSoFar old mid all now.copy now.pending.items ts) c.in-Some.ensures.steps.0 c.loop-property.invariant) c.requires.room

pub loop-property-preserved : goal.loop-property-preserved
loop-property-preserved c =
    let old = c.args.ctx.now in
    let mid = c.loop-property.ctx in
    let all = c.args.properties.items in
    let now = c.loop-property.copied in
    let next = c.add_property.new.copied in
    copied-next old mid c.add_property.new.ctx all now.copy now.pending.items c.in-Some.property (into_iter_items c.next.new.self) next.copy next.pending.items (subst (λ (ts : List Tree). CopiedSoFar old mid all now.copy now.pending.items ts) c.in-Some.ensures.steps.0 c.loop-property.invariant)
    c.in_ok-add_property.ensures

pub finish-requires-clause-copied : goal.finish-requires-clause-copied
finish-requires-clause-copied c =
    let ended = c.loop-property.property-iterator in
    let now = c.loop-property.copied in
    is-copied c.args.ctx.now c.loop-property.ctx c.loop-property.ctx c.args.properties.items now.copy now.pending.items (into_iter_items ended) (sym ended.rest.ok.0 ∙ c.in-None.ensures.steps.0) c.loop-property.invariant

pub finish-requires-clause-room : goal.finish-requires-clause-room
finish-requires-clause-room c =
    let ended = c.loop-property.property-iterator in
    let now = c.loop-property.copied in
    last-room c.args.ctx.now c.loop-property.ctx c.loop-property.ctx c.args.properties.items now.copy now.pending.items (into_iter_items ended) (sym ended.rest.ok.0 ∙ c.in-None.ensures.steps.0) c.loop-property.invariant c.requires.room

pub returns : goal.returns
returns c =
    let ended = c.loop-property.property-iterator in
    let now = c.loop-property.copied in
    copied-all c.args.ctx.now c.loop-property.ctx c.finish.new.ctx c.args.properties.items now.copy now.pending.items (into_iter_items ended) c.in_ok-made.made (sym ended.rest.ok.0 ∙ c.in-None.ensures.steps.0) c.loop-property.invariant c.in_ok-made.ensures
