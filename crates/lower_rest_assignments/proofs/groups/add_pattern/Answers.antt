use Rattle.std.proofs.Common.{arith, sym, ◌∙◌}
use Rattle.lower_temporaries.specs.Declarators.{bound_as}
use Rattle.lower_rest_assignments.proofs.Patterns.{alone-room, groups-room, pattern-alone, pattern-beside}
use Rattle.lower_rest_assignments.proofs.groups.add_pattern.Goals as goal

pub add_alone-requires : goal.add_alone-requires
add_alone-requires c = record { room = alone-room c.args.pattern c.open_pattern-opened.result c.open_pattern-opened.ensures c.args.ctx.now.ast.next c.requires.room }

pub add_groups-requires : goal.add_groups-requires
add_groups-requires c =
    let opens = c.open_pattern-opened.ensures in
    record { whole = opens.whole; simple = opens.simple; there = c.requires.there; room = groups-room c.args.pattern c.open_pattern-opened.result opens c.args.ctx.now.ast.next c.requires.room }

pub returns-then-is_empty : goal.returns-then-is_empty
returns-then-is_empty c =
    let r = c.open_pattern-opened.result in
    pattern-alone c.args.pattern r c.open_pattern-opened.ensures (bound_as c.args.source.now) c.args.ctx.now c.add_alone.new.ctx c.args.assignments.items c.in_ok-all.all.items r.properties.len (omega (arith, r.properties.ok.0)) (sym c.is_empty.ensures ∙ c.if-is_empty.true) c.in_ok-all.ensures

pub returns : goal.returns
returns c =
    let r = c.open_pattern-opened.result in
    pattern-beside c.args.pattern r c.open_pattern-opened.ensures (bound_as c.args.source.now) c.args.ctx.now c.add_groups.new.ctx c.args.assignments.items c.in_ok-all-2.all.items r.properties.len (omega (arith, r.properties.ok.0)) (sym c.is_empty.ensures ∙ c.if-is_empty.false) c.in_ok-all-2.ensures
