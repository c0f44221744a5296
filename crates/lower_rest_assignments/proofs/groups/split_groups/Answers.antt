use Rattle.std.proofs.Common.{List, refl, subst, sym, ◌∙◌}
use Rattle.std.specs.Vec.Iter.{into_iter_items}
use Rattle.es_tree.specs.Tree.{Tree}
use Rattle.lower_temporaries.specs.Declarators.{bound_as}
use Rattle.lower_rest_assignments.specs.Groups.{SplitsGroups}
use Rattle.lower_rest_assignments.proofs.Splits.{splits-all, splits-first, splits-next, splits-room, splits-there, splits-whole}
use Rattle.lower_rest_assignments.proofs.groups.split_groups.Goals as goal

pub loop-property-init : goal.loop-property-init
loop-property-init c = splits-first _ _ _ _ _ _ c.into_iter-property-iterator.ensures.into_iter_gives.0 refl c.new.ensures.items c.new-2.ensures.items refl c.requires.whole

pub add_property-requires-clause-whole : goal.add_property-requires-clause-whole
add_property-requires-clause-whole c =
    let old = c.args.ctx.now in
    let mid = c.loop-property.ctx in
    let s = bound_as c.args.source.now in
    let first = c.args.assignments.items in
    let all = c.args.properties.items in
    let g = c.loop-property.groups in
    splits-whole s old mid mid first all (into_iter_items c.next.new.self) c.in-Some.property g g (subst (λ (ts : List Tree). SplitsGroups s old mid first all ts g) c.in-Some.ensures.steps.0 c.loop-property.invariant)

pub add_property-requires-clause-there : goal.add_property-requires-clause-there
add_property-requires-clause-there c =
    let old = c.args.ctx.now in
    let mid = c.loop-property.ctx in
    let s = bound_as c.args.source.now in
    let first = c.args.assignments.items in
    let all = c.args.properties.items in
    let g = c.loop-property.groups in
    splits-there s old mid mid first all (into_iter_items c.next.new.self) c.in-Some.property g g (subst (λ (ts : List Tree). SplitsGroups s old mid first all ts g) c.in-Some.ensures.steps.0 c.loop-property.invariant) c.requires.there

pub add_property-requires-clause-room : goal.add_property-requires-clause-room
add_property-requires-clause-room c =
    let old = c.args.ctx.now in
    let mid = c.loop-property.ctx in
    let s = bound_as c.args.source.now in
    let first = c.args.assignments.items in
    let all = c.args.properties.items in
    let g = c.loop-property.groups in
    splits-room s old mid mid first all (into_iter_items c.next.new.self) c.in-Some.property g g (subst (λ (ts : List Tree). SplitsGroups s old mid first all ts g) c.in-Some.ensures.steps.0 c.loop-property.invariant) c.requires.room

pub loop-property-preserved : goal.loop-property-preserved
loop-property-preserved c =
    let old = c.args.ctx.now in
    let mid = c.loop-property.ctx in
    let s = bound_as c.args.source.now in
    let first = c.args.assignments.items in
    let all = c.args.properties.items in
    let g = c.loop-property.groups in
    splits-next s old mid c.add_property.new.ctx first all (into_iter_items c.next.new.self) c.in-Some.property g c.add_property.new.groups (subst (λ (ts : List Tree). SplitsGroups s old mid first all ts g) c.in-Some.ensures.steps.0 c.loop-property.invariant) c.in_ok-add_property.ensures

pub returns : goal.returns
returns c =
    let ended = c.loop-property.property-iterator in
    splits-all (bound_as c.args.source.now) c.args.ctx.now c.loop-property.ctx c.args.assignments.items c.args.properties.items (into_iter_items ended) c.loop-property.groups (sym ended.rest.ok.0 ∙ c.in-None.ensures.steps.0) c.loop-property.invariant
