use Rattle.std.proofs.Common.{List, ap, arith, ◌++◌, ◌∙◌, ◌∷◌, []}
use Rattle.es_changes.specs.Moments.{Moment}
use Rattle.es_tree.specs.Tree.{Tree}
use Rattle.lower_temporaries.specs.Declarators.{bound_as}
use Rattle.lower_rest_assignments.proofs.Patterns.{groups-added}
use Rattle.lower_rest_assignments.proofs.groups.add_groups.Goals as goal

pub assign_source-requires : goal.assign_source-requires
assign_source-requires c = let split = c.in_ok-assignments.ensures in omega (arith, split.lighter, split.takes.next_is, c.requires.room)

pub assign_rest-requires : goal.assign_rest-requires
assign_rest-requires c =
    let split = c.in_ok-assignments.ensures in
    let next = ap (λ (a : Moment). a.next) c.in_ok-last.ensures.reads.moment_is in
    omega (arith, next, split.lighter, split.takes.next_is, c.requires.room)

pub returns : goal.returns
returns c =
    let last = c.in_ok-last.last in
    let rest = c.in_ok-rest.rest in
    groups-added (bound_as c.args.source.now) c.args.ctx.now c.split_groups.new.ctx c.assign_source.new.ctx c.assign_rest.new.ctx c.args.pattern c.args.assignments.items _ c.in_ok-assignments.field-0 c.in_ok-group.group last rest c.in_ok-assignments.ensures c.in_ok-group.ensures c.in_ok-last.ensures.made c.in_ok-rest.ensures.made
    c.requires.simple c.in_ok-last.ensures.reads c.in_ok-rest.ensures.reads (c.in_ok-push-2.ensures.items ∙ ap (λ (ts : List Tree). ts ++ rest ∷ []) c.in_ok-push.ensures.items)
