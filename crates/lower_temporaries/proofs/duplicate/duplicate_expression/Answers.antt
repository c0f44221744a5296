use Rattle.std.proofs.Common.{arith}
use Rattle.lower_temporaries.specs.SeenTrees.{no_bindings}
use Rattle.es_resolution.specs.Seen.{seen}
use Rattle.lower_temporaries.proofs.Duplicated.{further-size, one-more}
use Rattle.lower_temporaries.proofs.duplicate.duplicate_expression.Goals as goal

pub returns : goal.returns
returns c =
    let second = c.in_ok-second in
    let first = c.in_ok-first in
    record { duplicated = λ names. (one-more c.further_use.new.ctx (seen names second.second) (first.ensures.begun names) (second.ensures.written names) second.ensures.reads (further-size names first.first first.again)).duplicates }

pub further_use-requires : goal.further_use-requires
further_use-requires c =
    let so = c.in_ok-first.ensures.begun no_bindings in
    record { room = omega (arith, so.small, so.next, further-size no_bindings c.in_ok-first.first c.in_ok-first.again, c.requires.room) }
