use Rattle.std.proofs.Common.{ap, arith, refl, ◌+◌, ◌≡◌}
use Rattle.es_changes.specs.Moments.{Moment}
use Rattle.lower_temporaries.specs.Helpers.{mapped_ids}
use Rattle.lower_temporaries.proofs.HelperCalls.{few-mapped}
use Rattle.lower_temporaries.proofs.Takings.{reads-as, reads-ids, reads-then}
use Rattle.lower_temporaries.proofs.helpers.new_rest_value.Goals as goal

pub new_keys-requires : goal.new_keys-requires
new_keys-requires c =
    let first = ap (λ (a : Moment). a.next) c.in_ok-callee.ensures.reads.moment_is in
    record { room = omega (arith, first, c.requires.room) }

pub new_call_expression-requires : goal.new_call_expression-requires
new_call_expression-requires c =
    let first = ap (λ (a : Moment). a.next) c.in_ok-callee.ensures.reads.moment_is in
    let second = ap (λ (a : Moment). a.next) c.in_ok-left_out.ensures.reads.moment_is in
    omega (arith, first, second, few-mapped c.args.is_read, c.requires.room)

pub returns-clause-reads : goal.returns-clause-reads
returns-clause-reads c =
    let mapped = c.new_keys.new.ctx in
    let more = mapped_ids c.args.is_read in
    let ids : 3 + (1 + more + 1) ≡ 5 + more = omega arith in
    reads-as (3 + (1 + more + 1)) (5 + more) ids
    (reads-then {m = 3} {n = 1 + more + 1} c.in_ok-callee.ensures.reads (reads-then {m = 1 + more} {n = 1} c.in_ok-left_out.ensures.reads
    (reads-ids 1 mapped _ c.new_call_expression.ensures.counted refl (record { used = λ x. refl; made_is = refl }) (record { state = refl; options = refl; around = refl; scopes = refl; place = refl }))))
