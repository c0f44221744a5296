use Rattle.std.proofs.Common.{arith}
use Rattle.lower_temporaries.specs.SeenTrees.{no_bindings}
use Rattle.es_resolution.specs.Seen.{seen}
use Rattle.lower_temporaries.proofs.Duplicated.{further-size, one-more, seen-pushed}
use Rattle.lower_temporaries.proofs.duplicate.duplicate_expression_multiple.Goals as goal

pub loop-preserved : goal.loop-preserved
loop-preserved g c = λ names.
    let u = c.in_ok-further_use in
    rw (seen-pushed names c.loop.others.items c.push.new.self.items u.field-0 c.in_ok-push.ensures.items)
    (one-more c.further_use.new.ctx (seen names u.field-0) (c.loop.invariant names) (u.ensures.written names) u.ensures.reads (further-size names c.in_ok-first.first c.loop.again-1))

pub loop-init : goal.loop-init
loop-init g c = λ names. rw c.in_ok-others.ensures.items (c.in_ok-first.ensures.begun names)

pub further_use-requires : goal.further_use-requires
further_use-requires g c =
    let so = c.loop.invariant no_bindings in
    let size = further-size no_bindings c.in_ok-first.first c.loop.again-1 in
    record { room = omega (arith, so.small, so.next, size, c.requires.room, c.loop-test.true) }
