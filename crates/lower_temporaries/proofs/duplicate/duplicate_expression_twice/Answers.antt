use Rattle.std.proofs.Common.{ap, arith}
use Rattle.lower_temporaries.specs.SeenTrees.{no_bindings}
use Rattle.es_resolution.specs.Seen.{seen}
use Rattle.lower_temporaries.proofs.Duplicated.{further-size, one-more}
use Rattle.lower_temporaries.proofs.duplicate.duplicate_expression_twice.Goals as goal

pub returns : goal.returns
returns c =
    let first = c.in_ok-first in
    let second = c.in_ok-second in
    let third = c.in_ok-third in
    record {
      duplicated = λ names.
          let size = further-size names first.first first.again in
          let once = one-more c.further_use.new.ctx (seen names second.second) (first.ensures.begun names) (second.ensures.written names) second.ensures.reads size in
          (one-more c.further_use-2.new.ctx (seen names third.third) once (third.ensures.written names) third.ensures.reads size).duplicates;
    }

pub further_use-requires : goal.further_use-requires
further_use-requires c =
    let so = c.in_ok-first.ensures.begun no_bindings in
    record { room = omega (arith, so.small, so.next, further-size no_bindings c.in_ok-first.first c.in_ok-first.again, c.requires.room) }

pub further_use-requires-2 : goal.further_use-requires-2
further_use-requires-2 c =
    let so = c.in_ok-first.ensures.begun no_bindings in
    record { room = omega (arith, so.small, so.next, further-size no_bindings c.in_ok-first.first c.in_ok-first.again, ap (λ m. m.next) c.in_ok-second.ensures.reads.moment_is, c.requires.room) }
