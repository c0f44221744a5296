use Rattle.std.proofs.Common.{ap, arith, subst}
use Rattle.es_changes.specs.Moments.{Moment}
use Rattle.lower_temporaries.specs.Takings.{ReadsMore}
use Rattle.lower_temporaries.proofs.Takings.{reads-then}
use Rattle.lower_object_rest.proofs.Costs.{size-name}
use Rattle.lower_object_rest.proofs.rests.new_all_value.Goals as goal

pub new_whole_value-requires-clause-room : goal.new_whole_value-requires-clause-room
new_whole_value-requires-clause-room c =
    let first = ap (λ (a : Moment). a.next) c.in_ok-again.ensures.reads.moment_is in
    omega (arith, first, size-name c.args.source c.requires.name, c.requires.room)

pub returns-clause-reads : goal.returns-clause-reads
returns-clause-reads c =
    let again = subst (λ n. ReadsMore n c.args.ctx.now c.read_once_more.new.ctx) (size-name c.args.source c.requires.name) c.in_ok-again.ensures.reads in
    reads-then {m = 1} {n = 10} again c.in_ok-value.ensures.reads
