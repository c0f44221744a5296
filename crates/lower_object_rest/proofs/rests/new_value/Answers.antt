use Rattle.std.proofs.Common.{ap, arith, subst, ◌+◌, ◌≡◌}
use Rattle.es_changes.specs.Moments.{Moment}
use Rattle.lower_temporaries.specs.Helpers.{mapped_ids}
use Rattle.lower_temporaries.specs.Takings.{ReadsMore}
use Rattle.lower_temporaries.proofs.Takings.{reads-as, reads-then}
use Rattle.lower_object_rest.proofs.Costs.{size-name}
use Rattle.lower_object_rest.proofs.rests.new_value.Goals as goal

pub new_rest_value-requires : goal.new_rest_value-requires
new_rest_value-requires c =
    let first = ap (λ (a : Moment). a.next) c.in_ok-again.ensures.reads.moment_is in
    record { room = omega (arith, first, size-name c.args.source.now c.requires.name, c.requires.room) }

pub returns-clause-reads : goal.returns-clause-reads
returns-clause-reads c =
    let again = subst (λ n. ReadsMore n c.args.ctx.now c.read_once_more.new.ctx) (size-name c.args.source.now c.requires.name) c.in_ok-again.ensures.reads in
    let more = mapped_ids c.args.is_read in
    let ids : 1 + (5 + more) ≡ 6 + more = omega arith in
    reads-as (1 + (5 + more)) (6 + more) ids (reads-then {m = 1} {n = 5 + more} again c.in_ok-value.ensures.reads)
