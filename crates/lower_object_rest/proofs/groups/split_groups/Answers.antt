use Rattle.std.proofs.Common.{List, refl, subst, sym, ◌∙◌}
use Rattle.std.specs.Vec.Iter.{into_iter_items}
use Rattle.es_tree.specs.Tree.{Tree}
use Rattle.lower_object_rest.proofs.GroupsMade.{GroupsSoFar, so-far-all, so-far-first, so-far-next, so-far-plain, so-far-room}
use Rattle.lower_object_rest.proofs.groups.split_groups.Goals as goal

pub loop-property-init : goal.loop-property-init
loop-property-init c = so-far-first _ _ _ _ _ c.into_iter-property-iterator.ensures.into_iter_gives.0 c.new.ensures.items c.new-2.ensures.items c.new-3.ensures.items refl

pub add_property-requires-clause-plain : goal.add_property-requires-clause-plain
add_property-requires-clause-plain c =
    let old = c.args.ctx.now in
    let mid = c.loop-property.ctx in
    let all = c.args.properties.items in
    let s = c.args.source.now in
    let g = c.loop-property.groups in
    so-far-plain old mid all (into_iter_items c.next.new.self) s c.in-Some.property g (subst (λ (ts : List Tree). GroupsSoFar old mid all ts s g) c.in-Some.ensures.steps.0 c.loop-property.invariant) c.requires.plain

pub add_property-requires-clause-room : goal.add_property-requires-clause-room
add_property-requires-clause-room c =
    let old = c.args.ctx.now in
    let mid = c.loop-property.ctx in
    let all = c.args.properties.items in
    let s = c.args.source.now in
    let g = c.loop-property.groups in
    so-far-room old mid all (into_iter_items c.next.new.self) s c.in-Some.property g (subst (λ (ts : List Tree). GroupsSoFar old mid all ts s g) c.in-Some.ensures.steps.0 c.loop-property.invariant) c.requires.room

pub loop-property-preserved : goal.loop-property-preserved
loop-property-preserved c =
    let old = c.args.ctx.now in
    let mid = c.loop-property.ctx in
    let all = c.args.properties.items in
    let s = c.args.source.now in
    let g = c.loop-property.groups in
    so-far-next old mid all (into_iter_items c.next.new.self) s c.in-Some.property g (subst (λ (ts : List Tree). GroupsSoFar old mid all ts s g) c.in-Some.ensures.steps.0 c.loop-property.invariant) c.add_property.new.ctx c.add_property.new.groups c.in_ok-add_property.ensures

pub returns : goal.returns
returns c =
    let ended = c.loop-property.property-iterator in
    so-far-all c.args.ctx.now c.loop-property.ctx c.args.properties.items (into_iter_items ended) c.args.source.now c.loop-property.groups (sym ended.rest.ok.0 ∙ c.in-None.ensures.steps.0) c.loop-property.invariant
